mod LampSteps
mod Steps
pub mod FieldSteps
