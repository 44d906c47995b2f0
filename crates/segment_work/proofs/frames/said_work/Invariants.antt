use Rattle.std.proofs.Common.{◌≡◌, ℕ}
use Rattle.record_law.specs.Counting.{up_to_last}
use Rattle.work_law.specs.Work.{sum_below}
use Rattle.segment_work.specs.Terms.{turn_terms}
use Rattle.segment_work.proofs.Said.{told_at}
use Rattle.segment_work.proofs.frames.said_work.Given as goal

abbrev pub invariant-loop-i : goal.invariant-loop-i
invariant-loop-i l = (w : ℕ) → l.work ≡ up_to_last w → l.total ≡ up_to_last (sum_below (told_at (turn_terms l.segment) w l.from.0 l.to.0) l.i)
