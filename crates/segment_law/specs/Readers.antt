-- The readers of a segment. They find nothing at an address that is no station's.
use Rattle.std.specs.Prelude.{ℕ, Bool, not, true, false, ◌&&◌, ◌==◌, if◌then◌else◌, List, [], ◌∷◌, length, Option, Some, None, is_none, is_ok}
use Rattle.std.specs.List.{list_all}
use Rattle.std.specs.Option.{option_map}
use Rattle.bus_frame.specs.Frames.{CanFrame}
use Rattle.pgn_ids.specs.declared.address.Address.{Address}
use Rattle.tx_queue.specs.Queue.{front}
use Rattle.bus_order.specs.Bus.{next_frame, frame_again}
use Rattle.lane_core.specs.declared.sight.LaneSight.{LaneSight}
use Rattle.station_core.specs.Lanes.{least_below, pumping_lane}
use Rattle.message_events.specs.declared.event.Event.{Event}
use Rattle.message_events.specs.declared.event.Event.TheVariants as event
use Rattle.station_core.specs.Station.{Station}
use Rattle.station_core.specs.Sending as sending
use Rattle.station_core.specs.Taking as taking
use Rattle.station_core.specs.Timers as timers
use Rattle.segment_law.specs.Segment.{Segment, place_of, station_of, station_at, waiting_at}
use Rattle.segment_law.specs.Calls.{called, applied, events_of, no_place}
use Rattle.segment_law.specs.declared.call.Call.TheVariants.{Pump, Take, TakeAgain}

-- how many frames its queue holds, and the first of them
abbrev pub queue_len : Segment → Address → ℕ
queue_len seg a = length (station_at seg a).queue

abbrev pub front_at : Segment → Address → Option CanFrame
front_at seg a = front (station_at seg a).queue

-- what is seen of its lane to a destination
abbrev pub lane_seen : Segment → (a to : Address) → LaneSight
lane_seen seg a to = sending.lane_seen (station_at seg a) to

-- a pump to this destination would not be refused
abbrev pub pumps_to : Segment → Address → ℕ → Bool
pumps_to seg a to = is_ok (called seg (Pump a (record { 0 = to })))

-- the lowest such destination
abbrev pub next_pump : Segment → Address → Option Address
next_pump seg a = option_map (λ to. record { 0 = to }) (least_below (pumps_to seg a) 256)

-- a timer of it is due
abbrev pub is_due_of : Segment → Option Station → Bool
is_due_of seg None = false
is_due_of seg (Some st) = timers.is_due st seg.now

abbrev pub is_due : Segment → Address → Bool
is_due seg a = is_due_of seg (station_of seg a)

-- the frame that it takes next, or that it takes again
abbrev pub frame_for : Segment → (again : Bool) → ℕ → Option CanFrame
frame_for seg again i = if again then frame_again seg.bus i else next_frame seg.bus i

-- the ports that a station would give to with this frame, if it has a place for its answer, and the message's length
abbrev pub wanted_with : Option Station → Option CanFrame → List ℕ × ℕ
wanted_with (Some st) (Some frame) = if no_place st then ([], 0) else taking.wanted st frame
wanted_with _ _ = ([], 0)

-- the ports that its next Take with room would give to, or its TakeAgain, and the message's length
abbrev pub wanted : Segment → Address → (again : Bool) → List ℕ × ℕ
wanted seg a again = elim (place_of seg a) [ None ↦ ([], 0) | Some i ↦ wanted_with (station_of seg a) (frame_for seg again i) ]

-- the ports that events give to; none if nothing is given
abbrev pub ports_given : List Event → List ℕ
ports_given [] = []
ports_given (event.Given port from to pgn bytes ∷ events) = port.number ∷ ports_given events
ports_given (event.Outcome from to number outcome ∷ events) = ports_given events

abbrev pub length_given : List Event → ℕ
length_given [] = 0
length_given (event.Given port from to pgn bytes ∷ events) = length bytes
length_given (event.Outcome from to number outcome ∷ events) = length_given events

-- what such a Take with room gives
abbrev pub given_by_take : Segment → Address → (again : Bool) → List ℕ × ℕ
given_by_take seg a again =
    let events = events_of (applied seg (if again then TakeAgain a true else Take a true)).1 in
    (ports_given events, length_given events)

-- the station's queue is empty, no frame waits for it, and no lane of it would queue
abbrev pub rests : Segment → Station → Bool
rests seg st = length st.queue == 0 && waiting_at seg st.address == 0 && is_none (pumping_lane st.lanes seg.now)

-- every station rests
abbrev pub is_idle : Segment → Bool
is_idle seg = list_all (rests seg) seg.stations
