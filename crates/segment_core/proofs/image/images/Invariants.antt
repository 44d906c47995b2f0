use Rattle.std.proofs.Common.{◌≡◌, take}
use Rattle.segment_core.proofs.image.images.Given as goal

abbrev pub invariant-loop-i : goal.invariant-loop-i
invariant-loop-i l = l.images.items ≡ take l.i l.stations
