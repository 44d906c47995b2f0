pub mod Options
pub mod Strays
pub mod Counts
pub mod Followed
pub mod Telling
pub mod Listening
pub mod Outcome
pub mod Ending
