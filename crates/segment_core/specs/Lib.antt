pub mod Transmits
pub mod Drives
pub mod Runs
pub mod Undisturbed
pub mod Promise
