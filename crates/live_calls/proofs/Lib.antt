pub mod Applying
pub mod Refusing
pub mod Nothing
pub mod Fronts
pub mod Lowest
