pub mod Rows
pub mod Memory
