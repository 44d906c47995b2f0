use Rattle.std.proofs.Common.{◌≡◌, ◌≤◌, length, map, take, vec_capacity}
use Rattle.station_core.specs.Station.{new_station}
use Rattle.segment_state.specs.Places.{ArePlaces}
use Rattle.segment_state.proofs.state.SegmentState.of.Given as goal

abbrev pub invariant-loop-place : goal.invariant-loop-place
invariant-loop-place l =
    (l.stations.items ≡ map new_station (take l.place l.rising.items))
    × (length l.rising.items ≤ vec_capacity l.stations)
    × ArePlaces l.places l.stations.items
