use Rattle.segment_core.proofs.Sweeps.{Taking}
use Rattle.segment_core.proofs.driving.take_all.Given as goal

abbrev pub invariant-loop : goal.invariant-loop
invariant-loop l = Taking l.station l.fn.seg l.fn.course.frames.items l.fn.course.parts.items l.left l.counter l.seg l.course.frames.items l.course.parts.items
