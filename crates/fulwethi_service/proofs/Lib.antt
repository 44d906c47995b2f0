pub mod AsService
pub mod AsClient
pub mod AsInbox
pub mod Rounds
pub mod Addresses
pub mod Same
