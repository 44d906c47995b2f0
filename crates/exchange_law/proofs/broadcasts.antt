pub mod Sweeps
pub mod Receivers
pub mod Senders
pub mod Turns
pub mod Meanings
pub mod Lists
pub mod Broadcasts
pub mod Quiets
