use Rattle.std.proofs.Common.{◌≡◌}
use Rattle.record_law.specs.Counting.{up_to_last}
use Rattle.work_law.specs.Work.{sum_below, ahead_work}
use Rattle.segment_work.specs.Terms.{turn_terms}
use Rattle.segment_work.proofs.bus.bus_work.Given as goal

abbrev pub invariant-loop-i : goal.invariant-loop-i
invariant-loop-i l = l.total ≡ up_to_last (sum_below (ahead_work (turn_terms l.segment) l.segment.bus) l.i)
