-- What is said of the lanes of a station.
pub use Rattle.station_lanes.specs.Lanes.{Lanes}
pub use Rattle.station_lanes.specs.LaneCalls.{lane_to, stepped_lanes}
unfoldable pub use Rattle.station_lanes.specs.LaneReaders.{least_below, overrun_lanes}
pub use Rattle.station_lanes.specs.LaneReaders.{due_lane, is_pending_at, missing_at, pumping_lane, queues_abort_at, refusal_at}
