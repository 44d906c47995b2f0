use Rattle.std.proofs.Common.{◌≡◌, ◌≤◌, None}
use Rattle.station_lanes.specs.LaneReaders.{least_below, is_due_at}
use Rattle.station_lanes.proofs.lanes.Lanes.next_due.Given as goal

abbrev pub invariant-loop : goal.invariant-loop
invariant-loop l = (l.counter ≤ l.from) × (l.from ≤ 256) × (least_below (is_due_at l.self l.now) l.from ≡ None)
