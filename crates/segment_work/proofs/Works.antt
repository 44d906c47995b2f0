-- The work on a segment in its parts.
use Rattle.std.proofs.Common.{◌≡◌, ◌+◌, refl}
use Rattle.segment_law.specs.Segment.{Segment}
use Rattle.work_law.specs.Work.{sum_over, station_work, bus_work, work}
use Rattle.segment_drain.specs.Enough.{calls_left}
use Rattle.segment_work.specs.Terms.{turn_terms}

pub calls_left_is : (seg : Segment) → calls_left seg ≡ sum_over (station_work (turn_terms seg)) seg.stations + bus_work (turn_terms seg) seg.bus
unfolding work turn_terms
calls_left_is seg = refl
