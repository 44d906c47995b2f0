use Rattle.std.proofs.Common.{◌≡◌, ◌++◌}
use Rattle.log_decode.proofs.Silences.{silent_from}
use Rattle.log_decode.proofs.silence.tell_silent.Given as goal

abbrev pub invariant-loop-at : goal.invariant-loop-at
invariant-loop-at l = l.told.items ++ silent_from l.now l.at l.sessions.entries ≡ l.fn.told.items ++ silent_from l.now 0 l.sessions.entries
