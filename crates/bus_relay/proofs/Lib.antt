pub mod Accounts
pub mod Comings
