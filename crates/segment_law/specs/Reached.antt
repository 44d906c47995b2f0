-- The facts of every segment that calls reach.
use Rattle.std.specs.Prelude.{◌≡◌, ℕ, ◌≤◌, true, length, max, All, Some, slice_get}
use Rattle.std.specs.FinMap as map
use Rattle.pgn_ids.specs.Address.{is_one}
use Rattle.pgn_ids.specs.Pgn.{is_pgn}
use Rattle.pgn_ids.specs.declared.address.Address.{Address}
use Rattle.tp_wire.specs.declared.constants.TheConstants.{MIN_SIZE}
use Rattle.bus_order.specs.Bus.{Bus, lowest}
use Rattle.bus_order.specs.Kept.{IsSound}
use Rattle.lane_core.specs.Lane.{Lane, longest_to}
use Rattle.lane_core.specs.declared.message.Pending.{Pending}
use Rattle.station_core.specs.Lanes.{Lanes}
use Rattle.station_core.specs.Station.{Station}
use Rattle.segment_law.specs.Segment.{Segment, place_of}

-- a message can be carried to the destination
pub record IsFitMessage (to : ℕ) (m : Pending) : Type 0 where
  pub pgn : is_pgn m.pgn ≡ true
  pub least : MIN_SIZE ≤ length m.bytes
  pub most : length m.bytes ≤ longest_to to

-- the lane from a station to a destination
pub record IsFitLane (from : Address) (to : ℕ) (lane : Lane) : Type 0 where
  pub from_it : lane.from ≡ from.0
  pub to_it : lane.to ≡ to
  pub pending : All (IsFitMessage to) lane.pending

abbrev pub AreFitLanes : Address → Lanes → Type 0
AreFitLanes from lanes = (to : ℕ) (lane : Lane) → map.get lanes to ≡ Some lane → IsFitLane from to lane

-- a station has the address of one node, its ports are its own, and so are its lanes
pub record IsFitStation (st : Station) : Type 0 where
  pub own : is_one st.address.0 ≡ true
  pub ports : st.ports.station ≡ st.address
  pub lanes : AreFitLanes st.address st.lanes

-- each station is at the place that its address leads to, so no two have one address
abbrev pub AreInPlace : Segment → Type 0
AreInPlace seg = (i : ℕ) (st : Station) → slice_get seg.stations i ≡ Some st → place_of seg st.address ≡ Some i

-- a bus with a cursor for each of so many stations keeps no frame that no station needs
pub record IsFitBus (stations : ℕ) (bus : Bus) : Type 0 where
  pub sound : IsSound bus
  pub cursors : length bus.cursors ≡ stations
  pub released : bus.first ≡ max 1 (lowest bus.cursors)

pub record IsReached (seg : Segment) : Type 0 where
  pub some : 1 ≤ length seg.stations
  pub stations : All IsFitStation seg.stations
  pub places : AreInPlace seg
  pub bus : IsFitBus (length seg.stations) seg.bus
