-- A segment: its clock, its stations by rising address, the bus between them, and what was counted.
use Rattle.std.specs.Prelude.{ℕ, ◌+◌, ◌-◌, ◌^◌, min, Bool, true, ◌&&◌, not, nat_lt, nat_le, ◌==◌, if◌then◌else◌, List, [], ◌∷◌, map, length, fold, Option, Some, None, is_some, unwrap_or, position, slice_get, slice_set}
use Rattle.std.specs.List.{list_any, list_all}
use Rattle.pgn_ids.specs.Address.{is_one}
use Rattle.pgn_ids.specs.declared.address.Address.{Address}
use Rattle.tp_wire.specs.declared.outcome.Outcome.{Outcome}
use Rattle.tp_wire.specs.declared.outcome.Outcome.TheVariants.{Acknowledged, Broadcast, Aborted, TimedOut, Overrun, Cancelled, Unreachable}
use Rattle.bus_order.specs.Bus.{Bus, new_bus, waiting}
use Rattle.lane_core.specs.Lane.{Lane}
use Rattle.message_events.specs.declared.event.Event.{Event}
use Rattle.message_events.specs.declared.event.Event.TheVariants as event
use Rattle.station_core.specs.Station.{Station, new_station}
use Rattle.station_core.specs.Sending.{lane_of}
use Rattle.segment_law.specs.declared.counts.Counts.{Counts}

-- the clock in ticks of 1 ms, the stations by rising address, the bus with the cursor of each station at the station's
-- place, and what was counted
pub record Segment : Type 0 where
  pub now : ℕ
  pub stations : List Station
  pub bus : Bus
  pub counts : Counts

-- how many stations a segment has at most
abbrev pub station_limit : ℕ
station_limit = 32

abbrev pub are_distinct : List Address → Bool
are_distinct [] = true
are_distinct (a ∷ addresses) = not (list_any (λ b. a.0 == b.0) addresses) && are_distinct addresses

-- one to 32 distinct addresses, each of one node
abbrev pub are_addresses : List Address → Bool
are_addresses addresses = nat_lt 0 (length addresses) && nat_le (length addresses) station_limit && list_all (λ a. is_one a.0) addresses && are_distinct addresses

-- an address is inserted before the first that is above it
abbrev pub rising_insert : Address → List Address → List Address
rising_insert a [] = a ∷ []
rising_insert a (b ∷ addresses) = if nat_lt a.0 b.0 then a ∷ b ∷ addresses else b ∷ rising_insert a addresses

abbrev pub rising : List Address → List Address
rising [] = []
rising (a ∷ addresses) = rising_insert a (rising addresses)

abbrev pub no_counts : Counts
no_counts = record { frames = 0; malformed = 0; repeated = 0; given = 0; acknowledged = 0; broadcast = 0; aborted = 0; timed_out = 0; overrun = 0; cancelled = 0; unreachable = 0 }

-- nothing was done yet
abbrev pub new_segment : List Address → Segment
new_segment addresses = record { now = 0; stations = map new_station (rising addresses); bus = new_bus (length addresses); counts = no_counts }

-- Stations

-- the place of a station, which is that of its cursor
abbrev pub place_of : Segment → Address → Option ℕ
place_of seg a = position (λ st. st.address.0 == a.0) seg.stations

abbrev pub has_station : Segment → Address → Bool
has_station seg a = is_some (place_of seg a)

-- the station with an address
abbrev pub station_of : Segment → Address → Option Station
station_of seg a = elim (place_of seg a) [ None ↦ None | Some i ↦ slice_get seg.stations i ]

-- the station with an address; a new one if there is none
abbrev pub station_at : Segment → Address → Station
station_at seg a = unwrap_or (station_of seg a) (new_station a)

-- another state of the station at a place
abbrev pub with_station : Segment → ℕ → Station → Segment
with_station seg i st = record seg { stations = slice_set seg.stations i st }

-- the lane from a station to a destination
abbrev pub lane_at : Segment → (from to : Address) → Lane
lane_at seg from to = lane_of (station_at seg from) to

-- how many frames a station has neither taken nor passed over
abbrev pub waiting_at : Segment → Address → ℕ
waiting_at seg a = elim (place_of seg a) [ None ↦ 0 | Some i ↦ waiting seg.bus i ]

-- Counting, each number up to the last value of 64 bits

abbrev pub plus : ℕ → ℕ → ℕ
plus n k = min (n + k) (2 ^ 64 - 1)

abbrev pub counted_outcome : Counts → Outcome → Counts
counted_outcome c Acknowledged = record c { acknowledged = plus c.acknowledged 1 }
counted_outcome c Broadcast = record c { broadcast = plus c.broadcast 1 }
counted_outcome c (Aborted reason) = record c { aborted = plus c.aborted 1 }
counted_outcome c TimedOut = record c { timed_out = plus c.timed_out 1 }
counted_outcome c Overrun = record c { overrun = plus c.overrun 1 }
counted_outcome c Cancelled = record c { cancelled = plus c.cancelled 1 }
counted_outcome c Unreachable = record c { unreachable = plus c.unreachable 1 }

abbrev pub counted_event : Counts → Event → Counts
counted_event c (event.Given port from to pgn bytes) = record c { given = plus c.given 1 }
counted_event c (event.Outcome from to number outcome) = counted_outcome c outcome

-- the events of one call
abbrev pub counted : Counts → List Event → Counts
counted c events = fold counted_event c events

-- a frame was put on the bus
abbrev pub counted_frame : Counts → Counts
counted_frame c = record c { frames = plus c.frames 1 }

-- a station looked at a frame, which was malformed or not
abbrev pub counted_look : Counts → (is_malformed : Bool) → Counts
counted_look c is_malformed = if is_malformed then record c { malformed = plus c.malformed 1 } else c

-- a frame was taken again
abbrev pub counted_repeat : Counts → Counts
counted_repeat c = record c { repeated = plus c.repeated 1 }
