pub mod Ways
pub mod Session
pub mod Sessions
pub mod Due
pub mod View
pub mod Decoder
pub mod Belonging
pub mod Stray
