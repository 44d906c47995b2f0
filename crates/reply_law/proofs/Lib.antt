pub mod Gives
pub mod Sound
pub mod Walk
pub mod Following
