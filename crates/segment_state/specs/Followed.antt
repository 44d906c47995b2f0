-- A bus that its stations follow, and their addresses by rising place.
use Rattle.std.specs.Prelude.{◌≡◌, List, length, map}
use Rattle.pgn_ids.specs.declared.address.Address.{Address}
use Rattle.bus_order.specs.Kept.{IsSound}
use Rattle.segment_law.specs.Segment.{Segment}

-- each station has its cursor on the bus, whose places are right
pub record IsFollowed (seg : Segment) : Type 0 where
  pub sound : IsSound seg.bus
  pub cursors : length seg.bus.cursors ≡ length seg.stations

abbrev pub addresses_of : Segment → List Address
addresses_of seg = map (λ st. st.address) seg.stations
