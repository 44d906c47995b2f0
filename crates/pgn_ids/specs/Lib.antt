pub mod Address
pub mod Pgn
pub mod Identifier
