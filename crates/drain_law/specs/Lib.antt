pub mod Waiting
pub mod Ended
pub mod Unheard
