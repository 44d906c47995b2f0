use Rattle.std.proofs.Common.{◌≡◌}
use Rattle.record_law.specs.Counting.{up_to_last}
use Rattle.work_law.specs.Work.{sum_below, lane_work_at}
use Rattle.segment_work.specs.Terms.{turn_terms}
use Rattle.segment_work.proofs.lanes.lanes_work.Given as goal

abbrev pub invariant-loop-to : goal.invariant-loop-to
invariant-loop-to l = l.total ≡ up_to_last (sum_below (lane_work_at (turn_terms l.segment) l.lanes) l.to)
