use Rattle.std.proofs.Common.{◌≡◌, None, replicate, vec_capacity}
use Rattle.station_lanes.proofs.lanes.Lanes.new.Given as goal

abbrev pub invariant-loop : goal.invariant-loop
invariant-loop l = (l.slots.items ≡ replicate l.counter None) × (vec_capacity l.slots ≡ 256)
