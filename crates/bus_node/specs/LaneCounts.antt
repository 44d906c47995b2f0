-- How many of the station's lanes are in doubt, and how many have something to do.
use Rattle.std.specs.Prelude.{ℕ, Bool, nat_lt, List, ◌++◌, codes}
use Rattle.std.specs.Fmt.{decimal}
use Rattle.station_lanes.specs.LaneReaders.{count_below}
use Rattle.segment_law.specs.Readers.{lane_seen}
use Rattle.bus_node.specs.Node.{Node}

-- the lane to a destination is in doubt after a message that failed
abbrev pub is_doubted : Node → (to : ℕ) → Bool
is_doubted n to = (lane_seen n.station.segment n.station.address (record { 0 = to })).in_doubt

-- a message to a destination waits or is under way
abbrev pub has_pending : Node → (to : ℕ) → Bool
has_pending n to = nat_lt 0 (lane_seen n.station.segment n.station.address (record { 0 = to })).pending

-- how many of the lanes to the destinations 0 to 255 are in doubt
abbrev pub lanes_in_doubt : Node → ℕ
lanes_in_doubt n = count_below (is_doubted n) 256

abbrev pub lanes_pending : Node → ℕ
lanes_pending n = count_below (has_pending n) 256

-- the two numbers as they are printed, each behind a blank
unfoldable pub lane_counts_text : (doubted pending : ℕ) → List ℕ
lane_counts_text doubted pending = codes " " ++ decimal doubted ++ codes " " ++ decimal pending
