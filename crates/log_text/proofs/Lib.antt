pub mod Pairs
pub mod DigitsBack
pub mod FieldsBack
pub mod IfaceBack
pub mod Written
pub mod Bare
pub mod AsWritten
