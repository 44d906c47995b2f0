use Rattle.std.proofs.Common.{◌≡◌, ◌-◌, None}
use Rattle.station_lanes.specs.LaneReaders.{least_below}
use Rattle.bus_node.specs.Time.{may_pump}
use Rattle.bus_node.proofs.node.Node.lane_awake.Given as goal

-- nothing may be queued to a lower one
abbrev pub invariant-loop-to : goal.invariant-loop-to
invariant-loop-to l = least_below (may_pump l.fn.self) l.number ≡ None

abbrev pub decreases-loop-to : goal.decreases-loop-to
decreases-loop-to l = 255 - l.number
