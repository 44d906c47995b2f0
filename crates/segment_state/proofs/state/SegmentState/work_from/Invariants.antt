use Rattle.tick_timers.specs.Due.{IsDueFrom}
use Rattle.segment_state.proofs.Nexts.{any_of}
use Rattle.segment_state.proofs.state.SegmentState.work_from.Given as goal

abbrev pub invariant-loop-station : goal.invariant-loop-station
invariant-loop-station l = IsDueFrom (any_of l.self l.station-index) l.tick
