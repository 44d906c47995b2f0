-- The lanes of a station as they are kept: one place for each destination.
use Rattle.std.specs.Prelude.{ℕ, zero, suc, ◌≡◌, ◌≢◌, ◌<◌, ◌||◌, ◌==◌, Bool, true, List, length, Option, Some, None, slice_index_or}
use Rattle.std.specs.FinMap as map
use Rattle.pgn_ids.specs.Address.{is_one, global_address}
use Rattle.address_set.specs.Sets.{AddressSet, has}
use Rattle.lane_core.specs.Lane.{Lane}
use Rattle.lane_core.specs.Pump.{is_ready}
use Rattle.lane_core.specs.Fire.{is_timed}
use Rattle.station_lanes.specs.Lanes.{Lanes}
use Rattle.station_lanes.specs.declared.lanes.Lanes.TheInside.{Inside}

-- an address is in a set or not, and each other one is as before
abbrev pub IsMarked : (before after : AddressSet) → (to : ℕ) → (is_in : Bool) → Type 0
IsMarked before after to is_in = (has after to ≡ is_in) × ((other : ℕ) → other < 256 → other ≢ to → has after other ≡ has before other)

-- what the place of a destination holds
abbrev pub slot_at : List (Option Lane) → ℕ → Option Lane
slot_at slots to = slice_index_or slots to None

abbrev pub with_slot : ℕ → Option Lane → Lanes → Lanes
with_slot to None lanes = lanes
with_slot to (Some lane) lanes = map.insert lanes to lane

-- the lanes to the destinations below a number
unfoldable pub lanes_below : List (Option Lane) → ℕ → Lanes
lanes_below slots zero = map.empty
lanes_below slots (suc to) = with_slot to (slot_at slots to) (lanes_below slots to)

abbrev pub lanes_value : Inside → Lanes
lanes_value l = lanes_below l.slots.items (length l.slots.items)

-- there is a place for each address; a lane is at its destination, which is a node or all; it is among those with a frame to queue, and among those with a
-- running timer, if it is one
pub record AreSlots (l : Inside) : Type 0 where
  pub places : length l.slots.items ≡ 256
  pub in_place : (to : ℕ) (lane : Lane) → slot_at l.slots.items to ≡ Some lane → lane.to ≡ to
  pub nodes : (to : ℕ) (lane : Lane) → slot_at l.slots.items to ≡ Some lane → (is_one to || to == global_address) ≡ true
  pub ready : (to : ℕ) (lane : Lane) → slot_at l.slots.items to ≡ Some lane → has l.ready to ≡ is_ready lane
  pub timed : (to : ℕ) (lane : Lane) → slot_at l.slots.items to ≡ Some lane → has l.timed to ≡ is_timed lane
