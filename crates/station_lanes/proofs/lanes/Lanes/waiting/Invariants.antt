use Rattle.std.proofs.Common.{◌≡◌, ◌≤◌}
use Rattle.station_lanes.specs.LaneReaders.{count_below, is_waiting_at}
use Rattle.station_lanes.proofs.lanes.Lanes.waiting.Given as goal

abbrev pub invariant-loop-place : goal.invariant-loop-place
invariant-loop-place l = (l.count ≡ count_below (is_waiting_at l.self) l.place) × (l.count ≤ l.place)
