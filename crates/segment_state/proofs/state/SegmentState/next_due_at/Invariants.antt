use Rattle.tick_timers.specs.Due.{IsDueFrom}
use Rattle.segment_state.proofs.Dues.{any_of}
use Rattle.segment_state.proofs.state.SegmentState.next_due_at.Given as goal

abbrev pub invariant-loop-station : goal.invariant-loop-station
invariant-loop-station l = IsDueFrom (any_of l.self.stations l.station-index) l.tick
