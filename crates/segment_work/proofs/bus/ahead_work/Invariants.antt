use Rattle.std.proofs.Common.{◌≡◌, ◌+◌}
use Rattle.bus_order.specs.Bus.{frame_at}
use Rattle.record_law.specs.Counting.{up_to_last}
use Rattle.work_law.specs.Work.{sum_below, waits_work}
use Rattle.segment_work.specs.Terms.{turn_terms, at}
use Rattle.segment_work.proofs.bus.ahead_work.Given as goal

abbrev pub invariant-loop-k : goal.invariant-loop-k
invariant-loop-k l = l.total ≡ up_to_last (sum_below (λ j. at (waits_work (turn_terms l.segment) l.own.0) (frame_at l.bus (l.first + j + 1))) l.k)
