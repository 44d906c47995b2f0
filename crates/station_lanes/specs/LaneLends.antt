-- The content of a place after its lane was stepped in place.
use Rattle.std.specs.Prelude.{Option, Some}
use Rattle.std.specs.Borrow.{LendsIf, Fml, MutBor}
use Rattle.lane_core.specs.Lane.{Lane}
use Rattle.lane_core.specs.contracts.lane.Lane.{the_row as lane_row}
use Rattle.station_lanes.specs.contracts.lanes.Slot.{the_row}

-- the place ends with the lane last left behind r, or unchanged
abbrev pub LendsLane : MutBor (Option Lane) → Option (MutBor Lane) → Fml
LendsLane s r = LendsIf the_row lane_row s r (λ lane. Some lane) s.now
