pub mod Fields
pub mod Iface
pub mod Time
