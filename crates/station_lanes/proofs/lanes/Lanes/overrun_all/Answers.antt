use Rattle.std.proofs.Common.{arith}
use Rattle.station_lanes.proofs.Overruns.{overrun_ends_all}
use Rattle.station_lanes.proofs.lanes.Lanes.overrun_all.Goals as goal

pub returns-clause-ended : goal.returns-clause-ended
returns-clause-ended c = overrun_ends_all _ _ _ c.loop-place.invariant.0 (omega arith)
