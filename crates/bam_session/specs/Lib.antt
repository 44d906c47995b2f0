pub mod States
pub mod Shape
pub mod Frames
pub mod Sending
pub mod Receiving
pub mod Shown
