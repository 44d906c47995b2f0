pub mod Cursors
pub mod Steps
pub mod Lists
pub mod Order
pub mod Abreast
pub mod Level
