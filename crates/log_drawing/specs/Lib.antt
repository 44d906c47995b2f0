pub mod Options
pub mod Counts
pub mod Packets
pub mod Picture
pub mod Outcome
pub mod Ending
