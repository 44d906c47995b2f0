pub mod Reading
pub mod Ending
