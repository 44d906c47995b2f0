pub mod PortSet
pub mod SetFields
pub mod Ports
pub mod Refusals
pub mod Shape
pub mod Calls
