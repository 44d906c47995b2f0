pub mod Taken
pub mod Assembled
