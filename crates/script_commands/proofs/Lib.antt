pub mod Steps
pub mod WordSteps
