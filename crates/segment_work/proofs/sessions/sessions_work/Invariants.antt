use Rattle.std.proofs.Common.{◌≡◌}
use Rattle.record_law.specs.Counting.{up_to_last}
use Rattle.work_law.specs.Work.{sum_below, source_work}
use Rattle.segment_work.specs.Terms.{turn_terms}
use Rattle.segment_work.proofs.sessions.sessions_work.Given as goal

abbrev pub invariant-loop-address : goal.invariant-loop-address
invariant-loop-address l = l.total ≡ up_to_last (sum_below (source_work (turn_terms l.segment) l.sessions) l.address)
