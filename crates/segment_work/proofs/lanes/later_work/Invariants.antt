use Rattle.std.proofs.Common.{◌≡◌, ◌+◌}
use Rattle.std.specs.Prelude.{slice_get}
use Rattle.record_law.specs.Counting.{up_to_last}
use Rattle.work_law.specs.Work.{sum_below}
use Rattle.segment_work.specs.Terms.{turn_terms, at, turn_of}
use Rattle.segment_work.proofs.lanes.later_work.Given as goal

abbrev pub invariant-loop-i : goal.invariant-loop-i
invariant-loop-i l = l.total ≡ up_to_last (sum_below (λ k. at (turn_of (turn_terms l.segment) l.from.0 l.to.0) (slice_get l.lane.pending (1 + k))) l.i)
