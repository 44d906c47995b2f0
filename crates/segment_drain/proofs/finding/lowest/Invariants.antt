use Rattle.std.proofs.Common.{◌≡◌, None}
use Rattle.station_lanes.specs.LaneReaders.{least_below}
use Rattle.segment_drain.specs.Chosen.{can, node}
use Rattle.segment_drain.proofs.finding.lowest.Given as goal

abbrev pub invariant-loop-address : goal.invariant-loop-address
invariant-loop-address l = least_below (λ n. can l.fn.segment l.fn.kind (node n)) l.address ≡ None
