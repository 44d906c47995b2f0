use Rattle.fulwethi_service.specs.Turned.{TurnsBelow}
use Rattle.fulwethi_service.proofs.turns.turn_each.Given as goal

abbrev pub invariant-loop-k : goal.invariant-loop-k
invariant-loop-k l = TurnsBelow l.k l.fn.live l.live l.calls
