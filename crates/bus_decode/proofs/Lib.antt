pub mod FrameSteps
pub mod LinesTold
pub mod Ends
