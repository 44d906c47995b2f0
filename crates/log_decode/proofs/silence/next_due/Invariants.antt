use Rattle.std.proofs.Common.{take}
use Rattle.log_decode.specs.Due.{NoneDueBefore}
use Rattle.log_decode.proofs.silence.next_due.Given as goal

abbrev pub invariant-loop-at : goal.invariant-loop-at
invariant-loop-at l = NoneDueBefore l.due (take l.at l.sessions.entries)
