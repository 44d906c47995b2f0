pub mod Equal
pub mod Trails
pub mod Prefixes
pub mod Pieces
pub mod Held
pub mod TurnedAway
pub mod Replies
