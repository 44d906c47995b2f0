pub mod Above
pub mod Written
pub mod RunSteps
