-- How the code drives a lane for a script.
use Rattle.std.specs.Prelude.{◌≡◌, ℕ, List, ◌++◌}
use Rattle.segment_law.specs.Segment.{Segment}
use Rattle.segment_law.specs.Drive.{Driven, end_of, events_in}
use Rattle.segment_law.specs.declared.end.DriveEnd.{DriveEnd}
use Rattle.segment_law.specs.declared.end.DriveEnd.TheVariants as ends
use Rattle.script_text.specs.Replies.{event_lines}
use Rattle.bus_script.specs.declared.parted.Parted.{Parted}
use Rattle.line_runs.specs.declared.running.Told.{Told}
use Rattle.line_runs.specs.declared.running.Told.TheVariants.{Answered, NoMemory}

abbrev pub told_at : DriveEnd → Told
told_at ends.Turns = Answered
told_at ends.Idle = Answered
told_at (ends.Refused cause) = Answered
told_at ends.OutOfMemory = NoMemory

-- a drive was made, with its turns and its end: its frames are in the log, its events below
pub record HasDriven (d : Driven) (log : List ℕ) (seg : Segment) (old page : Parted) (done : ℕ × DriveEnd) : Type 0 where
  pub segment : seg ≡ d.segment
  pub turns : done.0 ≡ d.turns
  pub ended : done.1 ≡ end_of d
  pub logged : page.log.items ≡ old.log.items ++ log
  pub told : page.below.items ≡ old.below.items ++ event_lines (events_in d.calls)
