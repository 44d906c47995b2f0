pub mod Calm
pub mod Lowest
