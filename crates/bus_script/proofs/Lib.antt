pub mod Splits
pub mod Logs
pub mod Shown
pub mod EventLines
