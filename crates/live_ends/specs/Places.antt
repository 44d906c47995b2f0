-- Places in the rings of ports, and memory for what goes there.
use Rattle.std.specs.Prelude.{◌≡◌, ℕ, ◌+◌, ◌*◌, ◌<◌, ◌≤◌, ◌==◌, true, false, cond, List, ◌∷◌, length, slice_index_or, ◌⊎◌, []}
use Rattle.pgn_ids.specs.declared.address.Address.{Address}
use Rattle.port_table.specs.declared.port.PortId.{PortId}
use Rattle.message_events.specs.declared.event.Event.{Event}
use Rattle.segment_law.specs.Readers.{ports_given}
use Rattle.segment_law.specs.Told.{same_port}
use Rattle.segment_rings.specs.Views.{DoorView}
use Rattle.live_record.specs.Replies.{EachShort}
use Rattle.live_record.specs.Record.{given}

-- how often a number is among others
abbrev pub times : ℕ → List ℕ → ℕ
times n [] = 0
times n (m ∷ ms) = cond {A = ℕ} (m == n) 1 0 + times n ms

abbrev pub port : Address → ℕ → PortId
port station number = record { station = station; number = number }

-- the k-th door has this port
abbrev pub IsPlaceIn : List DoorView → PortId → ℕ → Type 0
IsPlaceIn ds p k = (k < length ds) × ((d : DoorView) → (slice_index_or ds k d).port ≡ p)

-- the door of the port gets deliveries, and has so many places
abbrev pub RoomAt : PortId → ℕ → List DoorView → Type 0
RoomAt p needed [] = Unit {0}
RoomAt p needed (d ∷ ds) = (same_port p d.port ≡ true → (needed ≤ d.free) × (needed ≤ d.spare) × (d.active ≡ true)) × RoomAt p needed ds

-- the door of the port has too few places, or gets no more deliveries
pub record LacksRoom (p : PortId) (needed : ℕ) (ds : List DoorView) : Type 0 where
  pub place : ℕ
  pub is : IsPlaceIn ds p place
  pub lacks : (d : DoorView) → ((slice_index_or ds place d).free < needed) ⊎ ((slice_index_or ds place d).active ≡ false)

-- a door of the station has a place for each delivery to its port, and it isn't closed if there are any
abbrev pub HasPlaces : Address → List ℕ → DoorView → Type 0
HasPlaces station numbers d = d.port.station ≡ station → (times d.port.number numbers ≤ d.free) × (times d.port.number numbers ≤ d.spare) × (0 < times d.port.number numbers → d.active ≡ true)

abbrev pub HavePlaces : Address → List ℕ → List DoorView → Type 0
HavePlaces station numbers [] = Unit {0}
HavePlaces station numbers (d ∷ ds) = HasPlaces station numbers d × HavePlaces station numbers ds

-- a door has these places if its number was seen
abbrev pub IsPrepared : Address → (numbers seen : List ℕ) → DoorView → Type 0
IsPrepared station numbers seen d = d.port.station ≡ station → 0 < times d.port.number seen → (times d.port.number numbers ≤ d.free) × (times d.port.number numbers ≤ d.spare) × (d.active ≡ true)

abbrev pub Prepared : Address → (numbers seen : List ℕ) → List DoorView → Type 0
Prepared station numbers seen [] = Unit {0}
Prepared station numbers seen (d ∷ ds) = IsPrepared station numbers seen d × Prepared station numbers seen ds

-- each door has room for what these events give
abbrev pub TakesAll : List Event → List DoorView → Type 0
TakesAll es [] = Unit {0}
TakesAll es (d ∷ ds) = (length (given d.port es) ≤ d.free) × (length (given d.port es) ≤ d.spare) × TakesAll es ds

-- the ring of a port of this number has too few places that are known to be free, or gets no more deliveries
pub record LacksPlace (station : Address) (numbers : List ℕ) (ds : List DoorView) : Type 0 where
  pub place : ℕ
  pub within : place < length ds
  pub lacks : (d : DoorView) → ((slice_index_or ds place d).port.station ≡ station) × (0 < times (slice_index_or ds place d).port.number numbers)
      × (((slice_index_or ds place d).free < times (slice_index_or ds place d).port.number numbers) ⊎ ((slice_index_or ds place d).active ≡ false))

-- each is at least n
abbrev pub AtLeast : ℕ → List ℕ → Type 0
AtLeast n [] = Unit {0}
AtLeast n (b ∷ bs) = (n ≤ b) × AtLeast n bs

-- buffers for what these events give, twice each; no message has more than n bytes
pub record EnoughFor (n : ℕ) (es : List Event) (buffers : List ℕ) : Type 0 where
  pub enough : 2 * length (ports_given es) ≤ length buffers
  pub long : AtLeast n buffers
  pub short : EachShort n es
