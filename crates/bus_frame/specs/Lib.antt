pub mod Identifier
pub mod Frames
pub mod FrameFields
