pub mod Line
pub mod Working
pub mod Relaying
