pub mod Reason
pub mod Octets
pub mod Groups
pub mod Rows
pub mod Reading
pub mod Sizes
pub mod Aborts
pub mod Kinds
