pub mod Codes
pub mod Reads
pub mod Shown
pub mod Calls
pub mod Held
