pub mod Node
pub mod Answers
pub mod Looks
pub mod NodeFields
pub mod NodeCode
