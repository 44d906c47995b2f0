-- Stations that take a frame with room, one after another.
use Rattle.std.specs.Prelude.{◌≡◌, ℕ, zero, suc, true, false, List, [], ◌++◌, Some, None, slice_get, slice_set}
use Rattle.bus_frame.specs.Frames.{CanFrame}
use Rattle.message_events.specs.declared.event.Event.{Event}
use Rattle.station_core.specs.Station.{Station}
use Rattle.station_core.specs.Refusals.{taking_refusal}
use Rattle.station_core.specs.Taking.{is_malformed_for, taken}
use Rattle.segment_law.specs.Segment.{counted}
use Rattle.segment_law.specs.declared.counts.Counts.{Counts}
use Rattle.drive_course.specs.Joined.{joined}
use Rattle.drive_course.specs.declared.course.Course.{Course}

-- a station takes a frame, and has these events
pub record Takes (before : Station) (frame : CanFrame) (now : ℕ) (after : Station) (told : List Event) : Type 0 where
  pub free : taking_refusal before ≡ None
  pub well_formed : is_malformed_for before frame ≡ false
  pub step : taken before frame true now ≡ record { station = after; events = told }

-- one station more takes it, after those before it
pub record OneMore (Before : List Station → List Event → Type 0) (n : ℕ) (frame : CanFrame) (now : ℕ) (stations : List Station) (told : List Event) : Type 0 where
  pub others : List Station
  pub earlier : List Event
  pub before : Before others earlier
  pub station : Station
  pub after : Station
  pub own : List Event
  pub here : slice_get others n ≡ Some station
  pub takes : Takes station frame now after own
  pub left : stations ≡ slice_set others n after
  pub says : told ≡ earlier ++ own

-- the first n of the stations do
abbrev pub FirstTake : (n : ℕ) → CanFrame → (now : ℕ) → (before after : List Station) → (told : List Event) → Type 0
FirstTake zero frame now before after told = (after ≡ before) × (told ≡ [])
FirstTake (suc n) frame now before after told = OneMore (FirstTake n frame now before) n frame now after told

-- a course has these events more than before
abbrev pub Notes : (was course : Course) → (told : List Event) → Type 0
Notes was course told = (course.frames.items ≡ was.frames.items) × (joined course.parts.items ≡ joined was.parts.items ++ told)

-- the events of the first n of the stations are noted and counted
pub record FirstTell (n : ℕ) (frame : CanFrame) (now : ℕ) (before after : List Station) (was course : Course) (counts left : Counts) : Type 0 where
  pub told : List Event
  pub steps : FirstTake n frame now before after told
  pub notes : Notes was course told
  pub sums : left ≡ counted counts told
