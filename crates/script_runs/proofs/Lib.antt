pub mod ScriptsRead
pub mod Written
