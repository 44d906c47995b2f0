pub mod Packets
pub mod Join
pub mod Shape
