pub mod Made
pub mod Alone
pub mod Own
pub mod Resting
pub mod Fronts
pub mod AtOnce
