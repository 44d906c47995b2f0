pub mod Timers
pub mod Due
