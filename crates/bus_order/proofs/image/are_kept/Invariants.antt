use Rattle.std.proofs.Common.{◌≡◌, take}
use Rattle.bus_order.proofs.image.are_kept.Given as goal

abbrev pub invariant-loop-i : goal.invariant-loop-i
invariant-loop-i l = take l.i l.frames ≡ take l.i l.kept.items
