pub mod Ends
pub mod Homes
pub mod Places
pub mod Waiting
pub mod Offers
