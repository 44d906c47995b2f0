use Rattle.std.proofs.Common.{◌≡◌, take}
use Rattle.bus_order.proofs.image.copied.Given as goal

abbrev pub invariant-loop-i : goal.invariant-loop-i
invariant-loop-i l = l.copies.items ≡ take l.i l.frames.items
