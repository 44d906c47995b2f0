use Rattle.std.proofs.Common.{◌≡◌, ◌≤◌}
use Rattle.station_lanes.specs.LaneReaders.{count_below}
use Rattle.bus_node.specs.LaneCounts.{is_doubted, has_pending}
use Rattle.bus_node.proofs.node.Node.lane_counts.Given as goal

abbrev pub invariant-loop-to : goal.invariant-loop-to
invariant-loop-to l = (l.doubted ≡ count_below (is_doubted l.self) l.to) × (l.pending ≡ count_below (has_pending l.self) l.to) × (l.doubted ≤ l.to) × (l.pending ≤ l.to)
