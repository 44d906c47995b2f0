pub mod Fronts
pub mod Identifiers
