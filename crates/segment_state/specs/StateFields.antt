-- A segment as it is kept.
use Rattle.std.specs.Prelude.{◌≡◌, ◌≤◌, length}
use Rattle.segment_law.specs.Segment.{Segment, station_limit}
use Rattle.segment_law.specs.Reached.{AreInPlace}
use Rattle.segment_state.specs.Places.{ArePlaces}
use Rattle.segment_state.specs.declared.state.SegmentState.TheInside.{Inside}

abbrev pub state_value : Inside → Segment
state_value s = record { now = s.clock; stations = s.stations.items; bus = s.bus; counts = s.counts }

-- there are at most 32 stations, each with its cursor on the bus, and each found by its address, which no other one has
pub record IsStateInside (s : Inside) : Type 0 where
  pub few : length s.stations.items ≤ station_limit
  pub cursors : length s.bus.cursors ≡ length s.stations.items
  pub places : ArePlaces s.places s.stations.items
  pub in_place : AreInPlace (state_value s)
