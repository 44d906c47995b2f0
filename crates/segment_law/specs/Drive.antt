-- Driving one lane of a segment, turn by turn.
use Rattle.std.specs.Prelude.{ℕ, zero, suc, ◌+◌, Bool, true, ◌&&◌, nat_lt, if◌then◌else◌, List, [], ◌∷◌, ◌++◌, length, Option, Some, None, unwrap_or}
use Rattle.bus_frame.specs.Frames.{CanFrame}
use Rattle.pgn_ids.specs.declared.address.Address.{Address}
use Rattle.tx_queue.specs.Queue.{front}
use Rattle.station_core.specs.Lanes.{missing_at}
use Rattle.message_events.specs.declared.event.Event.{Event}
use Rattle.station_core.specs.Station.{Station}
use Rattle.segment_law.specs.Segment.{Segment, has_station, station_at, waiting_at}
use Rattle.segment_law.specs.Calls.{applied, events_of}
use Rattle.segment_law.specs.Record.{Record}
use Rattle.segment_law.specs.declared.call.Call.{Call}
use Rattle.segment_law.specs.declared.call.Call.TheVariants.{Pump, Transmit, Take, Tick}
use Rattle.segment_law.specs.declared.end.DriveEnd.{DriveEnd}
use Rattle.segment_law.specs.declared.end.DriveEnd.TheVariants as end
use Rattle.segment_law.specs.declared.refusal.Refusal.{Refusal}
use Rattle.segment_law.specs.declared.refusal.Refusal.TheVariants as refusal
use Rattle.segment_law.specs.declared.reply.Reply.{Reply}
use Rattle.segment_law.specs.declared.reply.Reply.TheVariants.{Refused}

-- the segment, the calls so far with their replies, the turns that put a frame, their frames, and the end once there is one
pub record Driven : Type 0 where
  pub segment : Segment
  pub calls : Record
  pub turns : ℕ
  pub frames : List CanFrame
  pub ended : Option DriveEnd

-- all events of a list of calls, in order
abbrev pub events_in : Record → List Event
events_in [] = []
events_in (step ∷ steps) = events_of step.1 ++ events_in steps

-- a call is made
abbrev pub with_call : Driven → Call → Segment × Reply → Driven
with_call d call step = record d { segment = step.0; calls = d.calls ++ (call, step.1) ∷ [] }

-- a refusal ends the drive
abbrev pub end_by : Refusal → DriveEnd
end_by refusal.NothingToSend = end.Idle
end_by cause = end.Refused cause

abbrev pub stops_at : Driven → Reply → Driven
stops_at d (Refused cause) = record d { ended = Some (end_by cause) }
stops_at d _ = d

-- the next call is made, unless the drive has ended
abbrev pub goes_on : Driven → (Driven → Driven) → Driven
goes_on d next = elim d.ended [ None ↦ next d | Some cause ↦ d ]

-- a call whose refusal ends the drive
abbrev pub makes_call : Call → Driven → Driven
makes_call call d = stops_at (with_call d call (applied d.segment call)) (applied d.segment call).1

abbrev pub makes : Driven → Call → Driven
makes d call = goes_on d (makes_call call)

-- a Pump that was refused only because it was too soon is repeated at the lane's time
abbrev pub pumps_again : (from to : Address) → Reply → Driven → Driven
pumps_again from to (Refused refusal.NotYet) d = makes (makes d (Tick (missing_at (station_at d.segment from).lanes to.0 d.segment.now))) (Pump from to)
pumps_again from to reply d = stops_at d reply

abbrev pub pumps : (from to : Address) → Driven → Driven
pumps from to d = pumps_again from to (applied d.segment (Pump from to)).1 (with_call d (Pump from to) (applied d.segment (Pump from to)))

-- the first frame of a station's queue was put on the bus: the turn counts
abbrev pub with_put : Option CanFrame → Driven → Driven
with_put None d = d
with_put (Some frame) d = record d { turns = d.turns + 1; frames = d.frames ++ frame ∷ [] }

abbrev pub puts_from : Address → Driven → Driven
puts_from a d = goes_on (makes_call (Transmit a) d) (with_put (front (station_at d.segment a).queue))

abbrev pub puts : Driven → Address → Driven
puts d a = goes_on d (puts_from a)

abbrev pub has_queued : Segment → Address → Bool
has_queued seg a = has_station seg a && nat_lt 0 (length (station_at seg a).queue)

-- the first part of a turn: one frame is put
abbrev pub turn_puts : (from to : Address) → Driven → Driven
turn_puts from to d =
    if has_queued d.segment from then puts d from
    else if has_queued d.segment to then puts d to
    else puts (pumps from to d) from

-- the station takes so many frames, with room
abbrev pub takes : ℕ → Address → Driven → Driven
takes zero a d = d
takes (suc more) a d = takes more a (makes d (Take a true))

-- the one that finds nothing any more
abbrev pub last_take : Address → Driven → Driven
last_take a d = with_call d (Take a true) (applied d.segment (Take a true))

-- a station takes until nothing waits for it
abbrev pub takes_all : Address → Driven → Driven
takes_all a d = goes_on (takes (waiting_at d.segment a) a d) (last_take a)

-- each of the stations, in their order
abbrev pub all_take : List Station → Driven → Driven
all_take [] d = d
all_take (st ∷ stations) d = all_take stations (goes_on d (takes_all st.address))

-- one turn: a frame is put, and every station takes
abbrev pub turn : (from to : Address) → Driven → Driven
turn from to d = goes_on (turn_puts from to d) (λ e. all_take e.segment.stations e)

abbrev pub turns_from : ℕ → (from to : Address) → Driven → Driven
turns_from zero from to d = d
turns_from (suc turns) from to d = turns_from turns from to (goes_on d (turn from to))

-- nothing was done yet
abbrev pub not_driven : Segment → Driven
not_driven seg = record { segment = seg; calls = []; turns = 0; frames = []; ended = None }

-- a drive of at most so many turns
unfoldable pub driven : Segment → (from to : Address) → (turns : ℕ) → Driven
driven seg from to turns = turns_from turns from to (not_driven seg)

abbrev pub end_of : Driven → DriveEnd
end_of d = unwrap_or d.ended end.Turns
