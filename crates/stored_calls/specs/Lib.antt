pub mod Lists
pub mod ListsCode
