pub mod Limits
pub mod Outcome
pub mod Ending
pub mod Taking
