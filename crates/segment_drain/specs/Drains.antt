-- A drain: one call a turn.
use Rattle.std.specs.Prelude.{◌≡◌, ℕ, map, zero, suc, ◌<◌, Bool, true, false, if◌then◌else◌, List, [], ◌∷◌, ◌++◌, length, Option, Some, None, Result, Ok, Err, vec_len, vec_capacity}
use Rattle.bus_frame.specs.Frames.{CanFrame}
use Rattle.message_events.specs.declared.event.Event.{Event}
use Rattle.pgn_ids.specs.declared.address.Address.{Address}
use Rattle.segment_law.specs.Segment.{Segment}
use Rattle.segment_law.specs.Calls.{applied}
use Rattle.segment_law.specs.Drive.{events_in}
use Rattle.segment_law.specs.Readers.{front_at}
use Rattle.segment_law.specs.Record.{Record}
use Rattle.segment_law.specs.declared.call.Call.{Call}
use Rattle.segment_law.specs.declared.call.Call.TheVariants.{Pump, Transmit, Take, Overrun, Tick, Fire}
use Rattle.segment_law.specs.declared.reply.Reply.{Reply}
use Rattle.segment_law.specs.declared.reply.Reply.TheVariants.{Refused, Done}
use Rattle.drive_course.specs.Joined.{joined}
use Rattle.segment_core.specs.Transmits.{put_by}
use Rattle.segment_drain.specs.Chosen.{next_of, is_hold}
use Rattle.segment_drain.specs.declared.course.Course.{Course}
use Rattle.segment_drain.specs.declared.drained.Drained as ran
use Rattle.segment_drain.specs.declared.end.DrainEnd.{DrainEnd}
use Rattle.segment_drain.specs.declared.end.DrainEnd.TheVariants as end
use Rattle.segment_drain.specs.declared.choosing.Next.{Next}
use Rattle.segment_drain.specs.declared.choosing.Next.TheVariants.{Make, End}

-- the segment, the calls so far with their replies, the frames that they put, the clock at which each was put, and the end once there
-- is one
pub record Drain : Type 0 where
  pub segment : Segment
  pub calls : Record
  pub frames : List CanFrame
  pub times : List ℕ
  pub ended : Option DrainEnd

-- a timer that only asks a sender to wait again ends the drain, and so would a refusal
abbrev pub end_by : (after : Segment) → Call → Reply → Option DrainEnd
end_by after call (Refused cause) = Some (end.Refused cause)
end_by after (Fire a) (Done events) = if is_hold (front_at after a) then Some end.Held else None
end_by after call reply = None

-- frames are put at the segment's clock
abbrev pub times_of : Segment → List CanFrame → List ℕ
times_of seg frames = map (λ (frame : CanFrame). seg.now) frames

-- a call is made
abbrev pub makes : Drain → Call → Segment × Reply → Drain
makes d call step = record {
  segment = step.0;
  calls = d.calls ++ (call, step.1) ∷ [];
  frames = d.frames ++ put_by d.segment call step.1;
  times = d.times ++ times_of d.segment (put_by d.segment call step.1);
  ended = end_by step.0 call step.1;
}

abbrev pub turn_by : Drain → Next → Drain
turn_by d (Make call) = makes d call (applied d.segment call)
turn_by d (End end) = record d { ended = Some end }

-- one turn, unless the drain has ended
abbrev pub turn : Drain → Drain
turn d = elim d.ended [ None ↦ turn_by d (next_of d.segment) | Some end ↦ d ]

unfoldable pub turns_from : ℕ → Drain → Drain
turns_from zero d = d
turns_from (suc turns) d = turn (turns_from turns d)

-- after the last turn there is more to be done, or not
abbrev pub end_at : Next → DrainEnd
end_at (Make call) = end.Turns
end_at (End end) = end

abbrev pub last_look : Drain → Drain
last_look d = elim d.ended [ None ↦ record d { ended = Some (end_at (next_of d.segment)) } | Some end ↦ d ]

-- nothing was done yet
abbrev pub undrained : Segment → Drain
undrained seg = record { segment = seg; calls = []; frames = []; times = []; ended = None }

-- a drain of at most so many turns
unfoldable pub drained : Segment → (turns : ℕ) → Drain
drained seg turns = last_look (turns_from turns (undrained seg))

-- each of its calls is one of these
abbrev pub is_drain_call : Call → Bool
is_drain_call (Take a room) = room
is_drain_call (Transmit a) = true
is_drain_call (Overrun a n) = true
is_drain_call (Pump a to) = true
is_drain_call (Fire a) = true
is_drain_call (Tick n) = true
is_drain_call _ = false

-- The code

-- the segment, the number of calls, the frames with their times, and the events are those of a drain
pub record Shows (d : Drain) (seg : Segment) (count : ℕ) (put : List CanFrame) (at : List ℕ) (told : List Event) : Type 0 where
  pub segment : seg ≡ d.segment
  pub turns : count ≡ length d.calls
  pub frames : put ≡ d.frames
  pub times : at ≡ d.times
  pub events : told ≡ events_in d.calls

-- there is room for one frame more, and for the events of one call more
pub record HasRoom (course : Course) : Type 0 where
  pub frame : vec_len course.frames < vec_capacity course.frames
  pub time : vec_len course.times < vec_capacity course.times
  pub part : vec_len course.parts < vec_capacity course.parts

-- two courses hold the same
pub record IsSame (old new : Course) : Type 0 where
  pub turns : new.turns ≡ old.turns
  pub frames : new.frames.items ≡ old.frames.items
  pub times : new.times.items ≡ old.times.items
  pub parts : new.parts.items ≡ old.parts.items

-- the frame that a call puts if it is done
abbrev pub frame_put : Segment → Call → Option CanFrame
frame_put seg (Transmit a) = front_at seg a
frame_put seg call = None

-- the station whose timer a call fires
abbrev pub timed_by : Call → Option Address
timed_by (Fire a) = Some a
timed_by _ = None

-- a timer that fired only asked a sender to wait again, or not
abbrev pub goes_on_by : Segment → Option Address → Result (Unit {0}) DrainEnd
goes_on_by seg None = Ok tt
goes_on_by seg (Some a) = if is_hold (front_at seg a) then Err end.Held else Ok tt

-- these are the lists that the code keeps
abbrev pub IsCourse : Drain → Segment → Course → Type 0
IsCourse d seg course = Shows d seg course.turns course.frames.items course.times.items (joined course.parts.items)

-- the drain is not at its end, and this is the next call
abbrev pub HasNext : Drain → Next → Type 0
HasNext d (Make call) = d.ended ≡ None
HasNext d (End end) = ⊥

-- the code made a call, which ended the drain or not, or it found no memory
abbrev pub Makes : Result (Unit {0}) DrainEnd → Drain → Call → Segment → Course → Type 0
Makes (Ok _) d call seg course = IsCourse (makes d call (applied d.segment call)) seg course × ((makes d call (applied d.segment call)).ended ≡ None)
Makes (Err end.OutOfMemory) d call seg course = IsCourse d seg course
Makes (Err why) d call seg course = IsCourse (makes d call (applied d.segment call)) seg course × ((makes d call (applied d.segment call)).ended ≡ Some why)

-- the code made a turn, or ended as the drain does, or found no memory for a call that was to be made
abbrev pub Goes : Result (Unit {0}) DrainEnd → Drain → Segment → Course → Type 0
Goes (Ok _) d seg course = IsCourse (turn d) seg course × ((turn d).ended ≡ None)
Goes (Err end.OutOfMemory) d seg course = IsCourse d seg course × HasNext d (next_of d.segment)
Goes (Err why) d seg course = IsCourse (turn d) seg course × ((turn d).ended ≡ Some why)

-- The whole drain

-- the turns, frames, events and end of the drain, and the segment that it leaves
pub record IsDrained (d : Drain) (seg : Segment) (done : ran.Drained) : Type 0 where
  pub shown : Shows d seg done.turns done.frames.items done.times.items (joined done.parts.items)
  pub end : d.ended ≡ Some done.end

-- what was done before a call found no memory: all of a drain of fewer turns, which wasn't at its end
pub record HasBegun (before seg : Segment) (turns : ℕ) (done : ran.Drained) : Type 0 where
  pub few : done.turns < turns
  pub shown : Shows (drained before done.turns) seg done.turns done.frames.items done.times.items (joined done.parts.items)
  pub more : (drained before done.turns).ended ≡ Some end.Turns
