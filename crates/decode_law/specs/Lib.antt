pub mod Hearing
pub mod Lines
pub mod Lacking
pub mod Examples
