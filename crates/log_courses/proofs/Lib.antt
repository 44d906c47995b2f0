pub mod AtKey
pub mod PutBack
