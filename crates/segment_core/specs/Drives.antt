-- What a drive of the code did, beside the drive that the law says.
use Rattle.std.specs.Prelude.{◌≡◌, ℕ, List, ◌∷◌, ◌++◌, length, Option, Some, None, Result, Ok, Err, IsOk, ◌+◌, Bool, true, false, IsTrue}
use Rattle.std.specs.List.{list_all}
use Rattle.bus_frame.specs.Frames.{CanFrame}
use Rattle.pgn_ids.specs.declared.address.Address.{Address}
use Rattle.message_events.specs.declared.event.Event.{Event}
use Rattle.segment_law.specs.Segment.{Segment, waiting_at}
use Rattle.segment_law.specs.Calls.{called, is_call}
use Rattle.segment_law.specs.Record.{Step, Record, StandsAt, replies_from, after, calls_of, replies_of}
use Rattle.segment_law.specs.Drive.{Driven, events_in, end_by, end_of, puts, turn_puts}
use Rattle.segment_law.specs.declared.call.Call.{Call}
use Rattle.segment_law.specs.declared.end.DriveEnd.{DriveEnd}
use Rattle.segment_law.specs.declared.refusal.Refusal.{Refusal}
use Rattle.segment_law.specs.declared.reply.Reply.{Reply}
use Rattle.segment_state.specs.Abreast.{FirstPass}
use Rattle.segment_state.specs.Followed.{IsFollowed, addresses_of}
use Rattle.segment_state.specs.declared.stop.Stop.{Stop}
use Rattle.segment_state.specs.declared.stop.Stop.TheVariants.{Refused, OutOfMemory}
use Rattle.drive_course.specs.declared.driven.Driven as ran
use Rattle.segment_law.specs.declared.end.DriveEnd.TheVariants as end
use Rattle.segment_law.specs.declared.refusal.Refusal.TheVariants as refusal
use Rattle.drive_course.specs.Joined.{joined}
use Rattle.segment_core.specs.Transmits.{transmitted}
use Rattle.drive_course.specs.declared.course.Course.{Course}

-- The whole drive

-- the turns, frames, events and end of the drive, and the segment that it leaves
pub record IsDriven (d : Driven) (seg : Segment) (done : ran.Driven) : Type 0 where
  pub turns : done.turns ≡ d.turns
  pub frames : done.frames ≡ d.frames
  pub events : done.events ≡ events_in d.calls
  pub end : done.end ≡ end_of d
  pub segment : seg ≡ d.segment

-- what was done before a call found no memory: the first of the drive's calls, and the first of its frames, which are those
-- that these calls put; the next call isn't refused
pub record IsBegun (d : Driven) (before seg : Segment) (done : ran.Driven) : Type 0 where
  pub made : Record
  pub next : Step
  pub rest : Record
  pub later : List CanFrame
  pub calls : made ++ next ∷ rest ≡ d.calls
  pub not_refused : IsOk (called seg next.0)
  pub frames : done.frames ++ later ≡ d.frames
  pub transmits : done.frames ≡ transmitted before made
  pub turns : done.turns ≡ length done.frames
  pub events : done.events ≡ events_in made
  pub segment : seg ≡ after before (calls_of made)
  pub stands : (addresses : List Address) (steps : Record) → StandsAt addresses steps before → StandsAt addresses (steps ++ made) seg

-- Its steps

-- how a drive ends if a call isn't done
abbrev pub stop_end : Stop → DriveEnd
stop_end (Refused cause) = end_by cause
stop_end OutOfMemory = end.OutOfMemory

-- whether a call is refused only because it is too soon
abbrev pub too_soon : Option Refusal → Bool
too_soon (Some refusal.NotYet) = true
too_soon cause = false

-- these frames and events are those of a drive that began at one segment and is at another
pub record IsShown (ended : Option DriveEnd) (start : Segment) (d : Driven) (seg : Segment) (put : List CanFrame) (told : List Event) : Type 0 where
  pub segment : seg ≡ d.segment
  pub frames : put ≡ d.frames
  pub events : told ≡ events_in d.calls
  pub end : d.ended ≡ ended
  pub turns : d.turns ≡ length d.frames
  pub transmits : d.frames ≡ transmitted start d.calls
  pub fit : IsTrue (list_all is_call (calls_of d.calls))
  pub replies : replies_from start (calls_of d.calls) ≡ replies_of d.calls
  pub state : after start (calls_of d.calls) ≡ d.segment

-- these are the frames and events that the code keeps
abbrev pub IsCourse : (ended : Option DriveEnd) (start : Segment) (d : Driven) (seg : Segment) → Course → Type 0
IsCourse ended start d seg course = IsShown ended start d seg course.frames.items (joined course.parts.items)

-- two courses show the same frames and events
abbrev pub SameTold : (old new : Course) → Type 0
SameTold old new = (new.frames.items ≡ old.frames.items) × (new.parts.items ≡ old.parts.items)

-- a drive leads to another by further calls
pub record GoesOn (e d : Driven) : Type 0 where
  pub rest : Record
  pub later : List CanFrame
  pub calls : e.calls ++ rest ≡ d.calls
  pub frames : e.frames ++ later ≡ d.frames

-- a drive leads to another by further calls, and this is the first of them
pub record GoesOnBy (call : Call) (e d : Driven) : Type 0 where
  pub reply : Reply
  pub rest : Record
  pub later : List CanFrame
  pub calls : e.calls ++ (call, reply) ∷ rest ≡ d.calls
  pub frames : e.frames ++ later ≡ d.frames

-- the code stopped before the end of a step, at a call that isn't refused
pub record IsCut (start : Segment) (d : Driven) (seg : Segment) (put : List CanFrame) (told : List Event) : Type 0 where
  pub made : Driven
  pub shown : IsShown None start made seg put told
  pub call : Call
  pub not_refused : IsOk (called seg call)
  pub on : GoesOnBy call made d

-- the code did a step of the drive, or its refused call ended it, or a call that isn't refused found no memory
abbrev pub HasGone : (start : Segment) (next : Driven) (seg : Segment) (put : List CanFrame) (told : List Event) → Result (Unit {0}) Stop → Type 0
HasGone start next seg put told (Ok _) = IsShown None start next seg put told
HasGone start next seg put told (Err (Refused cause)) = IsShown (Some (end_by cause)) start next seg put told
HasGone start next seg put told (Err OutOfMemory) = IsCut start next seg put told

abbrev pub Went : (start : Segment) (next : Driven) (seg : Segment) → Course → Result (Unit {0}) Stop → Type 0
Went start next seg course result = HasGone start next seg course.frames.items (joined course.parts.items) result

-- a drive is about to put the frame of its next turn, which this station puts
pub record PutsNext (from to a : Address) (start : Segment) (d : Driven) (seg : Segment) (course : Course) : Type 0 where
  pub at : Driven
  pub shown : IsCourse None start at seg course
  pub on : puts at a ≡ turn_puts from to d

-- a station took a frame
pub record HasTaken (a : Address) (before seg : Segment) : Type 0 where
  pub waits : waiting_at before a ≡ waiting_at seg a + 1
  pub followed : IsFollowed seg
  pub addresses : addresses_of seg ≡ addresses_of before

-- a station does so in a drive, whose course shows it
pub record HasPut (a : Address) (n : ℕ) (before : Segment) (was : Course) (after : Segment) (course : Course) : Type 0 where
  pub between : Segment
  pub shown : Course
  pub put : (start : Segment) (d : Driven) → IsCourse None start d before was → IsCourse None start (puts d a) between shown
  pub passed : FirstPass n between after shown course
