pub mod Faults
pub mod Ending
