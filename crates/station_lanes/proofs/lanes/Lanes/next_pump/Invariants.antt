use Rattle.std.proofs.Common.{◌≡◌, ◌≤◌, None}
use Rattle.station_lanes.specs.LaneReaders.{least_below, is_pumping}
use Rattle.station_lanes.proofs.lanes.Lanes.next_pump.Given as goal

abbrev pub invariant-loop : goal.invariant-loop
invariant-loop l = (l.counter ≤ l.from) × (l.from ≤ 256) × (least_below (is_pumping l.self l.now) l.from ≡ None)
