use Rattle.std.proofs.Common.{◌≡◌}
use Rattle.record_law.specs.Counting.{up_to_last}
use Rattle.work_law.specs.Work.{sum_below, own_at, waits_work}
use Rattle.segment_work.specs.Terms.{turn_terms}
use Rattle.segment_work.proofs.frames.bus_frame_work.Given as goal

abbrev pub invariant-loop-i : goal.invariant-loop-i
invariant-loop-i l = l.total ≡ up_to_last (sum_below (λ k. waits_work (turn_terms l.segment) (own_at (turn_terms l.segment) k) l.frame) l.i)
