use Rattle.std.proofs.Common.{◌≡◌, ◌++◌}
use Rattle.log_decode.proofs.Buses.{ended_from}
use Rattle.log_decode.proofs.decoder.finish_all.Given as goal

abbrev pub invariant-loop-at : goal.invariant-loop-at
invariant-loop-at l = l.told.items ++ ended_from l.at l.buses.entries ≡ l.fn.told.items ++ ended_from 0 l.buses.entries
