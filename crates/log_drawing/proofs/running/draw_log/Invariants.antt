use Rattle.std.proofs.Common.{◌-◌, ◌^◌}
use Rattle.log_drawing.proofs.RunSteps.{Inv}
use Rattle.log_drawing.proofs.running.draw_log.Given as goal

-- what was written so far, and then what the rest draws and tells, is what all draw and tell
abbrev pub invariant-lines : goal.invariant-lines
invariant-lines g l = Inv l.options (g.R.Read.remaining l.fn.reader) (g.R.Read.remaining l.reader) (g.W.Write.contents l.fn.writer) (g.W.Write.contents l.writer) (g.E.Write.contents l.fn.errors) (g.E.Write.contents l.errors) l.picture l.number

abbrev pub decreases-lines : goal.decreases-lines
decreases-lines g l = 2 ^ 64 - l.number
