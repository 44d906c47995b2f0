use Rattle.std.proofs.Common.{◌≡◌, take}
use Rattle.lane_core.proofs.image.are_pending.Given as goal

abbrev pub invariant-loop-i : goal.invariant-loop-i
invariant-loop-i l = take l.i l.messages ≡ take l.i l.pending.items
