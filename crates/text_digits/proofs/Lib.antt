pub mod More
pub mod Short
