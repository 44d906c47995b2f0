-- What a station has seen in a run, and what it was given.
use Rattle.std.specs.Prelude.{ℕ, ◌+◌, Bool, true, false, ◌==◌, if◌then◌else◌, List, [], ◌∷◌, ◌++◌, map, filter_map, Option, Some, None, option_and_then, option_to_list}
use Rattle.bus_frame.specs.Frames.{CanFrame}
use Rattle.pgn_ids.specs.declared.address.Address.{Address}
use Rattle.tp_wire.specs.Reading.{reading}
use Rattle.tp_wire.specs.declared.wire.Wire.{Wire}
use Rattle.message_events.specs.declared.event.Event.{Event}
use Rattle.message_events.specs.declared.event.Event.TheVariants as event
use Rattle.station_core.specs.Station.{new_station}
use Rattle.station_core.specs.Taking.{looks_at}
use Rattle.segment_law.specs.Segment.{Segment, new_segment, place_of}
use Rattle.segment_law.specs.Calls.{applied, events_of}
use Rattle.segment_law.specs.Drift.{at_tick, Drift, DriftsTo}
use Rattle.segment_law.specs.Readers.{frame_for}
use Rattle.segment_law.specs.Record.{Step, Record}
use Rattle.segment_law.specs.Told.{Placed, told}
use Rattle.segment_law.specs.declared.call.Call.{Call}
use Rattle.segment_law.specs.declared.call.Call.TheVariants.{Take, TakeAgain, Overrun}
use Rattle.record_law.specs.Counting.{is_done}

-- Frames

-- the meaning of a transport frame, from whom, and to whom
abbrev pub Heard : Type 0
Heard = Wire × Address × Address

-- the meaning of a frame that another node sends to the station with an address, or to all
abbrev pub heard_by : Address → CanFrame → Option Heard
heard_by a f = if looks_at (new_station a) f then reading f else None

-- the frame that the station at a place takes next, or takes again
abbrev pub frame_at : Segment → (again : Bool) → Option ℕ → Option CanFrame
frame_at seg again None = None
frame_at seg again (Some i) = frame_for seg again i

-- what a station has seen at a place of a record: it took a transport frame, or, if there is none, it missed frames
abbrev pub Seen : Type 0
Seen = Option Heard

abbrev pub seen_of : Address → Option CanFrame → List Seen
seen_of a frame = map Some (option_to_list (option_and_then (heard_by a) frame))

-- what a call shows to the station with an address: the frame of its Take, or of its TakeAgain, or that frames were missed
abbrev pub shown_by : Address → Segment → Call → List Seen
shown_by a seg (Take station room) = if station.0 == a.0 then seen_of a (frame_at seg false (place_of seg station)) else []
shown_by a seg (TakeAgain station room) = if station.0 == a.0 then seen_of a (frame_at seg true (place_of seg station)) else []
shown_by a seg (Overrun station n) = if station.0 == a.0 then None ∷ [] else []
shown_by a seg _ = []

-- if the call is done
abbrev pub seen_by : Address → Segment → Step → List Seen
seen_by a seg step = if is_done step.1 then shown_by a seg step.0 else []

-- each with the place of its call, from there on
abbrev pub seen_from : Address → ℕ → (seg : Segment) (steps : Record) (last : Segment) → Drift seg steps last → List (Placed Seen)
seen_from a place seg [] last run = []
seen_from a place seg (step ∷ steps) last run =
    map (λ x. (place, x)) (seen_by a (at_tick seg run.0) step)
    ++ seen_from a (place + 1) (applied (at_tick seg run.0) step.0).0 steps last run.2

-- what a station has seen in a run, each with the place of its call in the record, from 1; a frame that it took twice is there twice
abbrev pub seen_in : {addresses : List Address} {steps : Record} {seg : Segment} → DriftsTo addresses steps seg → Address → List (Placed Seen)
seen_in {addresses} {steps} {seg} run a = seen_from a 1 (new_segment addresses) steps seg run.drift

-- Messages

-- a message as it is given
pub record Message : Type 0 where
  pub from : Address
  pub to : Address
  pub pgn : ℕ
  pub bytes : List ℕ

-- that of a Given of any port of the station
abbrev pub message_at : Address → Event → Option Message
message_at a (event.Given port from to pgn bytes) = if port.station.0 == a.0 then Some (record { from = from; to = to; pgn = pgn; bytes = bytes }) else None
message_at a (event.Outcome from to number outcome) = None

abbrev pub given_by : Address → Step → List Message
given_by a step = filter_map (message_at a) (events_of step.1)

-- the messages that a station was given, at each of its ports, with the place of their replies
abbrev pub given_at : Record → Address → List (Placed Message)
given_at steps a = told (given_by a) steps
