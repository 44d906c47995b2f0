use Rattle.std.proofs.Common.{sym, ap, ◌∙◌}
use Rattle.segment_drain.specs.Chosen.{next_of}
use Rattle.segment_drain.proofs.Drains.{goes_by_call, goes_by_end}
use Rattle.segment_drain.proofs.draining.turn.Goals as goal

pub returns-in-Make : goal.returns-in-Make
returns-in-Make c = λ d h on. goes_by_call c.make.result d c.in-Make.call c.make.new.segment c.make.new.course (ap next_of (sym h.segment) ∙ sym c.in-Make.ensures) on (c.make.ensures d h)

pub returns-in-End : goal.returns-in-End
returns-in-End c = λ d h on. goes_by_end d c.in-End.end c.args.segment.now c.args.course.now (ap next_of (sym h.segment) ∙ sym c.in-End.ensures) on h
