pub mod Carriages
pub mod Ending
pub mod Known
