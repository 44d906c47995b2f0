pub mod Telling
pub mod Turns
pub mod Draining
pub mod Script
pub mod Driving
