-- The lanes of a station, by destination.
use Rattle.std.specs.Ordering.{nat_cmp}
use Rattle.std.specs.FinMap as map
use Rattle.std.specs.Coded.{Coded, coded_ℕ}
use Rattle.lane_core.specs.Lane.{Lane}
use Rattle.lane_core.specs.contracts.lane.Lane as lane

-- a map from destinations to the lanes that a message was sent in
abbrev pub Lanes : Type 0
Lanes = map.FinMap nat_cmp Lane

abbrev pub lanes_code : Coded Lanes
lanes_code = map.code coded_ℕ ((lane.the_row).coded)
