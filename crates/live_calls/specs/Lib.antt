pub mod Words
pub mod Places
pub mod Offers
pub mod Lowest
