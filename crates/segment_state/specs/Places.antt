-- The place of the station with an address, kept for all 256 addresses.
use Rattle.std.specs.Prelude.{◌≡◌, ℕ, ◌<◌, ◌==◌, if◌then◌else◌, List, length, replicate, Option, Some, None, position, slice_set, slice_index_or}
use Rattle.pgn_ids.specs.declared.address.Address.{Address}
use Rattle.station_core.specs.Station.{Station}
use Rattle.segment_state.specs.declared.places.Places.{Places}
use Rattle.segment_state.specs.declared.places.TheConstants.{NOWHERE}

-- no address has a place
abbrev pub no_places : Places
no_places = record { by_address = replicate 256 NOWHERE }

-- the place that is kept for an address
abbrev pub place_in : Places → Address → Option ℕ
place_in places a = if slice_index_or places.by_address a.0 NOWHERE == NOWHERE then None else Some (slice_index_or places.by_address a.0 NOWHERE)

-- an address has this place
abbrev pub with_place : Places → Address → ℕ → Places
with_place places a place = record { by_address = slice_set places.by_address a.0 place }

-- an address that has no place has this one
abbrev pub noted_by : Option ℕ → Places → Address → ℕ → Places
noted_by None places a place = with_place places a place
noted_by (Some _) places a place = places

abbrev pub noted : Places → Address → ℕ → Places
noted places a place = noted_by (place_in places a) places a place

-- the first of the stations that has an address
abbrev pub place_among : List Station → Address → Option ℕ
place_among stations a = position (λ st. st.address.0 == a.0) stations

-- there is a place for each address, which is that of the station that has it
pub record ArePlaces (places : Places) (stations : List Station) : Type 0 where
  pub all : length places.by_address ≡ 256
  pub found : (a : Address) → a.0 < 256 → place_in places a ≡ place_among stations a
