pub mod LineFronts
pub mod Known
