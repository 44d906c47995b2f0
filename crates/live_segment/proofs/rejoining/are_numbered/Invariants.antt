use Rattle.std.proofs.Common.{take}
use Rattle.live_record.specs.Past.{NumberedAfter}
use Rattle.live_segment.proofs.rejoining.are_numbered.Given as goal

abbrev pub invariant-loop-i : goal.invariant-loop-i
invariant-loop-i l = NumberedAfter 0 (take l.i l.pieces)
