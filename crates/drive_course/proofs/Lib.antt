pub mod Joining
pub mod Taken
