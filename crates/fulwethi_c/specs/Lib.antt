pub mod Held
pub mod Codes
pub mod Shown
pub mod Calls
