pub mod Drives
pub mod Sweeps
pub mod Steps
pub mod Turns
pub mod Together
pub mod Running
pub mod Undisturbed
