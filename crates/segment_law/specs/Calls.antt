-- The calls on a segment, each with the segment after it and its answer. What a station refuses is told in `station_core`.
use Rattle.std.specs.Prelude.{ℕ, ◌+◌, ◌^◌, Bool, true, false, ◌&&◌, not, nat_lt, nat_le, if◌then◌else◌, List, [], length, Option, Some, None, Result, Ok, Err, slice_get}
use Rattle.std.specs.List.{list_all}
use Rattle.bus_frame.specs.Frames.{CanFrame}
use Rattle.pgn_ids.specs.Pgn.{is_pgn}
use Rattle.pgn_ids.specs.Identifier.{meaning_of}
use Rattle.pgn_ids.specs.declared.address.Address.{Address}
use Rattle.tx_queue.specs.Queue.{front, behind}
use Rattle.bus_order.specs.Bus as bus
use Rattle.port_table.specs.Ports.{next_id, with_port, with_paused}
use Rattle.lane_core.specs.declared.refused.PumpRefused.{PumpRefused}
use Rattle.message_events.specs.declared.event.Event.{Event}
use Rattle.station_core.specs.Station.{Station, StationStep}
use Rattle.station_core.specs.Sending.{lane_of, sent, pumped, cancelled}
use Rattle.station_core.specs.Refusals.{is_queue_full}
use Rattle.station_core.specs.Refusals as station
use Rattle.station_core.specs.declared.refused.Refused.{Refused as Cause}
use Rattle.station_core.specs.Taking.{is_malformed_for, taken}
use Rattle.station_core.specs.Timers.{fired}
use Rattle.station_core.specs.Closing.{closed}
use Rattle.station_core.specs.Overruns.{overrun}
use Rattle.segment_law.specs.Segment.{Segment, place_of, has_station, with_station, counted, counted_frame, counted_look, counted_repeat}
use Rattle.segment_law.specs.declared.call.Call.{Call}
use Rattle.segment_law.specs.declared.call.Call.TheVariants.{Open, Close, Send, Pump, Transmit, Take, TakeAgain, Overrun, Tick, Fire, Cancel, Inject, Pause, Resume}
use Rattle.segment_law.specs.declared.refusal.Refusal.{Refusal}
use Rattle.segment_law.specs.declared.refusal.Refusal.TheVariants as refusal
use Rattle.segment_law.specs.Refusals.{cause_of}
use Rattle.segment_law.specs.declared.reply.Reply.{Reply}
use Rattle.segment_law.specs.declared.reply.Reply.TheVariants.{Opened, Sent, Refused, Done}

-- the call sends a message
abbrev pub is_send : Call → Bool
is_send (Send from to pgn bytes) = true
is_send _ = false

-- the segment after a call and its events, or why it is refused
abbrev pub Answer : Type 0
Answer = Result (Segment × Reply) Refusal

-- a call that is done without an event
abbrev pub done : Segment → Answer
done seg = Ok (seg, Done [])

-- a step of the station at a place
abbrev pub stepped : Segment → ℕ → StationStep → Answer
stepped seg i step = Ok (record (with_station seg i step.station) { counts = counted seg.counts step.events }, Done step.events)

-- no place is free in the queue
abbrev pub no_place : Station → Bool
no_place st = is_queue_full st

-- a call that its station refuses
abbrev pub refused : Cause → Answer
refused cause = Err (cause_of cause)

-- Ports

abbrev pub opens : Segment → (pgn max_len : ℕ) → ℕ → Station → Answer
opens seg pgn max_len i st = station.opens_unless refused st (Ok (with_station seg i (record st { ports = with_port st.ports pgn max_len }), Opened (next_id st.ports)))

abbrev pub closes : Segment → (number : ℕ) → ℕ → Station → Answer
closes seg number i st = station.closes_unless refused st number (done (with_station seg i (closed st number)))

abbrev pub pauses : Segment → (number : ℕ) → ℕ → Station → Answer
pauses seg number i st = station.pauses_unless refused st number (done (with_station seg i (record st { ports = with_paused st.ports number true })))

abbrev pub resumes : Segment → (number : ℕ) → ℕ → Station → Answer
resumes seg number i st = station.resumes_unless refused st number (done (with_station seg i (record st { ports = with_paused st.ports number false })))

-- Messages

abbrev pub sends : Segment → (to : Address) → (pgn : ℕ) → List ℕ → ℕ → Station → Answer
sends seg to pgn bytes i st = station.sends_unless refused st to (length bytes) (Ok (with_station seg i (sent st to pgn bytes), Sent ((lane_of st to).sent + 1)))

-- the places that a pump may need
abbrev pub pump_places : ℕ
pump_places = station.pump_places

-- why the lane queues nothing, or that it does
abbrev pub pumps_by : Segment → (to : Address) → ℕ → Station → Option PumpRefused → Answer
pumps_by seg to i st why = station.pumps_by refused st why (stepped seg i (pumped st to seg.now))

abbrev pub pumps : Segment → (to : Address) → ℕ → Station → Answer
pumps seg to i st = station.pumps_unless refused st to seg.now (stepped seg i (pumped st to seg.now))

abbrev pub cancels : Segment → (to : Address) → (number : ℕ) → ℕ → Station → Answer
cancels seg to number i st = station.cancels_unless refused st to number (stepped seg i (cancelled st to number))

-- Frames

-- a frame is put on the bus
abbrev pub with_frame : Segment → CanFrame → Segment
with_frame seg frame = record seg { bus = bus.put seg.bus frame; counts = counted_frame seg.counts }

-- the first frame of the queue
abbrev pub transmits_by : Segment → ℕ → Station → Option CanFrame → Answer
transmits_by seg i st None = Err refusal.NothingToSend
transmits_by seg i st (Some frame) =
    if bus.is_full seg.bus then Err refusal.BusFull
    else done (with_frame (with_station seg i (record st { queue = behind st.queue })) frame)

abbrev pub transmits : Segment → ℕ → Station → Answer
transmits seg i st = transmits_by seg i st (front st.queue)

-- a station takes a frame; if it looks at the frame and finds it malformed, that is counted
abbrev pub looks : Segment → (room : Bool) → ℕ → Station → CanFrame → Answer
looks seg room i st frame = stepped (record seg { counts = counted_look seg.counts (is_malformed_for st frame) }) i (taken st frame room seg.now)

-- a station takes the next frame of the bus, and frames that no station needs any more are dropped
abbrev pub takes_by : Segment → (room : Bool) → ℕ → Station → Option CanFrame → Answer
takes_by seg room i st None = Err refusal.NothingToTake
takes_by seg room i st (Some frame) = station.takes_unless refused st (looks (record seg { bus = bus.released (bus.taken seg.bus i) }) room i st frame)

abbrev pub takes : Segment → (room : Bool) → ℕ → Station → Answer
takes seg room i st = takes_by seg room i st (bus.next_frame seg.bus i)

-- the frame that was taken last
abbrev pub repeats_by : Segment → (room : Bool) → ℕ → Station → Option CanFrame → Answer
repeats_by seg room i st None = Err refusal.NothingToRepeat
repeats_by seg room i st (Some frame) = station.takes_unless refused st (looks (record seg { counts = counted_repeat seg.counts }) room i st frame)

abbrev pub repeats : Segment → (room : Bool) → ℕ → Station → Answer
repeats seg room i st = repeats_by seg room i st (bus.frame_again seg.bus i)

abbrev pub overruns : Segment → (n : ℕ) → ℕ → Station → Answer
overruns seg n i st =
    if nat_lt (bus.waiting seg.bus i) n then Err refusal.NothingToTake
    else stepped (record seg { bus = bus.released (bus.passed seg.bus i n) }) i (overrun st)

abbrev pub injects : Segment → CanFrame → Answer
injects seg frame =
    if has_station seg (meaning_of frame.id).from then Err refusal.StationAddress
    else if bus.is_full seg.bus then Err refusal.BusFull
    else done (with_frame seg frame)

-- Time

abbrev pub ticks : Segment → (n : ℕ) → Answer
ticks seg n =
    if not (nat_lt (seg.now + n) (2 ^ 64)) then Err refusal.ClockEnd
    else done (record seg { now = seg.now + n })

abbrev pub fires : Segment → ℕ → Station → Answer
fires seg i st = station.fires_unless refused st seg.now (stepped seg i (fired st seg.now))

-- Each call

-- the answer of a station, if there is one at the place
abbrev pub at_station : Option Station → (Station → Answer) → Answer
at_station None call = Err refusal.NoSuchStation
at_station (Some st) call = call st

-- the answer of the station with an address, if there is one
abbrev pub at_place : Segment → Option ℕ → (ℕ → Station → Answer) → Answer
at_place seg None call = Err refusal.NoSuchStation
at_place seg (Some i) call = at_station (slice_get seg.stations i) (call i)

abbrev pub at_address : Segment → Address → (ℕ → Station → Answer) → Answer
at_address seg a call = at_place seg (place_of seg a) call

unfoldable pub called : Segment → Call → Answer
called seg (Open station pgn max_len) = at_address seg station (opens seg pgn max_len)
called seg (Close port) = at_address seg port.station (closes seg port.number)
called seg (Send from to pgn bytes) = at_address seg from (sends seg to pgn bytes)
called seg (Pump station to) = at_address seg station (pumps seg to)
called seg (Transmit station) = at_address seg station (transmits seg)
called seg (Take station room) = at_address seg station (takes seg room)
called seg (TakeAgain station room) = at_address seg station (repeats seg room)
called seg (Overrun station n) = at_address seg station (overruns seg n)
called seg (Tick n) = ticks seg n
called seg (Fire station) = at_address seg station (fires seg)
called seg (Cancel from to number) = at_address seg from (cancels seg to number)
called seg (Inject frame) = injects seg frame
called seg (Pause port) = at_address seg port.station (pauses seg port.number)
called seg (Resume port) = at_address seg port.station (resumes seg port.number)

-- a refused call changes nothing
abbrev pub replied : Segment → Answer → Segment × Reply
replied seg (Err cause) = (seg, Refused cause)
replied seg (Ok step) = step

abbrev pub applied : Segment → Call → Segment × Reply
applied seg call = replied seg (called seg call)

-- the events of a reply
abbrev pub events_of : Reply → List Event
events_of (Done events) = events
events_of _ = []

-- Values of their types

abbrev pub are_bytes : List ℕ → Bool
are_bytes bytes = list_all (λ b. nat_lt b (2 ^ 8)) bytes

abbrev pub is_address : Address → Bool
is_address a = nat_lt a.0 (2 ^ 8)

-- an identifier of 29 bits and at most eight bytes
abbrev pub is_frame : CanFrame → Bool
is_frame f = nat_lt f.id (2 ^ 29) && nat_le (length f.bytes) 8 && are_bytes f.bytes

-- what a call names has values of its types, as far as a law asks for it
abbrev pub is_call : Call → Bool
is_call (Open station pgn max_len) = is_pgn pgn
is_call (Send from to pgn bytes) = is_address to && is_pgn pgn && are_bytes bytes
is_call (Pump station to) = is_address to
is_call (Inject frame) = is_frame frame
is_call _ = true
