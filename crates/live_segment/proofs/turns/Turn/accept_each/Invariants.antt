use Rattle.live_segment.specs.Turns.{AcceptsBelow, point}
use Rattle.live_segment.proofs.turns.Turn.accept_each.Given as goal

abbrev pub invariant-loop-client : goal.invariant-loop-client
invariant-loop-client l = AcceptsBelow l.client l.station (point l.initial.live l.initial.self) (point l.live l.self)
