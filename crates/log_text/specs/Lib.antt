pub mod Digits
pub mod Screen
pub mod Line
pub mod Written
pub mod Reading
