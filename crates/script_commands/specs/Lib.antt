pub mod Words
pub mod Values
pub mod Commands
pub mod Routes
