use Rattle.segment_drain.proofs.Drains.{Draining}
use Rattle.segment_drain.proofs.draining.drain.Given as goal

abbrev pub invariant-loop : goal.invariant-loop
invariant-loop l = Draining l.fn.segment l.counter l.segment l.course
