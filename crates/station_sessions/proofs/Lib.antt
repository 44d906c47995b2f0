pub mod SessionMaps
pub mod Leading
pub mod Parts
pub mod Unbinding
pub mod Sources
pub mod Images
