use Rattle.segment_core.proofs.Sweeps.{Turning}
use Rattle.segment_core.proofs.driving.drive.Given as goal

abbrev pub invariant-loop : goal.invariant-loop
invariant-loop l = Turning l.fn.seg l.from l.to l.turns l.counter l.seg l.course.frames.items l.course.parts.items
