use Rattle.segment_core.proofs.Sweeps.{Sweeping}
use Rattle.segment_core.proofs.driving.turn.Given as goal

abbrev pub invariant-loop-place : goal.invariant-loop-place
invariant-loop-place l = Sweeping l.fn.from l.fn.to l.fn.seg l.fn.course.frames.items l.fn.course.parts.items l.count l.place l.seg l.course.frames.items l.course.parts.items
