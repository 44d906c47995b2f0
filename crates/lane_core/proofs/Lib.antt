pub mod Pushing
pub mod Pumping
pub mod Cancelling
pub mod Keeping
