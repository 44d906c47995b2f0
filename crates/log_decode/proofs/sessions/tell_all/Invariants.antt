use Rattle.std.proofs.Common.{◌≡◌, ◌++◌, drop}
use Rattle.log_decode.specs.Sessions.{losses}
use Rattle.log_decode.specs.declared.session.Fate.TheVariants.{Lost}
use Rattle.log_decode.proofs.sessions.tell_all.Given as goal

abbrev pub invariant-loop-at : goal.invariant-loop-at
invariant-loop-at l = l.told.items ++ losses (Lost l.cause) (drop l.at l.sessions.entries) ≡ l.fn.told.items ++ losses (Lost l.cause) l.sessions.entries
