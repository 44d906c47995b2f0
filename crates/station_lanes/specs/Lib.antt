pub mod Lanes
pub mod LaneSlots
pub mod ImageFields
pub mod LaneCalls
pub mod LaneReaders
pub mod LaneLends
