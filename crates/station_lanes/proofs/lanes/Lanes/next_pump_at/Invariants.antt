use Rattle.std.proofs.Common.{◌≤◌}
use Rattle.std.specs.Prelude.{is_some}
use Rattle.tick_timers.specs.Due.{IsDueFrom}
use Rattle.station_lanes.specs.LaneReaders.{least_below, is_pumping}
use Rattle.station_lanes.proofs.lanes.Lanes.next_pump_at.Given as goal

abbrev pub invariant-loop : goal.invariant-loop
invariant-loop l = (l.counter ≤ l.from) × (l.from ≤ 256) × IsDueFrom (λ now. is_some (least_below (is_pumping l.self now) l.from)) l.tick
