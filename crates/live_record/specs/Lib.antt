pub mod Record
pub mod TurnedAway
pub mod Past
pub mod PastCode
pub mod Replies
