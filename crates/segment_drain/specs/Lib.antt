pub mod Calm
pub mod Chosen
pub mod Drains
pub mod Enough
pub mod Rested
