use Rattle.std.proofs.Common.{◌≡◌, take}
use Rattle.station_lanes.proofs.image.are_of.Given as goal

abbrev pub invariant-loop-i : goal.invariant-loop-i
invariant-loop-i l = take l.i l.images ≡ take l.i l.slots
