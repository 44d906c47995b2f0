use Rattle.fulwethi_service.specs.Turned.{Rounds}
use Rattle.fulwethi_service.proofs.turns.turn_all.Given as goal

abbrev pub invariant-loop-at : goal.invariant-loop-at
invariant-loop-at l = Rounds l.at l.fn.live l.live l.made
