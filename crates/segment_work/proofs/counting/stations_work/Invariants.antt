use Rattle.std.proofs.Common.{◌≡◌}
use Rattle.std.specs.Prelude.{slice_get}
use Rattle.record_law.specs.Counting.{up_to_last}
use Rattle.work_law.specs.Work.{sum_below, station_work}
use Rattle.segment_work.specs.Terms.{turn_terms, at}
use Rattle.segment_work.proofs.counting.stations_work.Given as goal

abbrev pub invariant-loop-i : goal.invariant-loop-i
invariant-loop-i l = l.total ≡ up_to_last (sum_below (λ k. at (station_work (turn_terms l.segment)) (slice_get l.segment.stations k)) l.i)
