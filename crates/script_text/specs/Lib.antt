pub mod Parts
pub mod Replies
pub mod Counts
