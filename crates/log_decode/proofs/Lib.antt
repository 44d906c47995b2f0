pub mod AtKey
pub mod Buses
pub mod Silences
pub mod Due
pub mod Keeping
pub mod Own
pub mod Apart
pub mod Compared
