use Rattle.std.proofs.Common.{◌≡◌, take}
use Rattle.script_segments.proofs.text.are_same.Given as goal

abbrev pub invariant-loop-i : goal.invariant-loop-i
invariant-loop-i l = take l.i l.stations ≡ take l.i l.others
