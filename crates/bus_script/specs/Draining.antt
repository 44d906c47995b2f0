-- The telling of a drain.
use Rattle.std.specs.Prelude.{ℕ, List, [], ◌++◌, length, unwrap_or, codes}
use Rattle.std.specs.Fmt.{decimal}
use Rattle.segment_law.specs.Segment.{Segment}
use Rattle.segment_law.specs.Drive.{events_in}
use Rattle.drive_course.specs.Joined.{joined}
use Rattle.script_text.specs.Parts.{line}
use Rattle.script_text.specs.Replies.{refusal_text, no_memory}
use Rattle.line_runs.specs.declared.running.Told.{Told}
use Rattle.line_runs.specs.declared.running.Told.TheVariants.{Answered, NoMemory}
use Rattle.segment_drain.specs.Drains.{Drain}
use Rattle.segment_drain.specs.declared.drained.Drained as ran
use Rattle.segment_drain.specs.declared.end.DrainEnd.{DrainEnd}
use Rattle.segment_drain.specs.declared.end.DrainEnd.TheVariants as ends
use Rattle.bus_script.specs.Telling.{Telling}

abbrev pub drain_end_text : DrainEnd → List ℕ
drain_end_text ends.Rest = codes "rest"
drain_end_text ends.Held = codes "held"
drain_end_text ends.Turns = codes "turns"
drain_end_text (ends.Refused cause) = refusal_text cause
drain_end_text ends.OutOfMemory = no_memory

-- the line of a drain: its turns and its end
unfoldable pub drained_line : ℕ → DrainEnd → List ℕ
drained_line turns end = codes "drained " ++ decimal turns ++ codes " " ++ line (drain_end_text end)

-- a drain that ended for want of memory is told as such
abbrev pub told_as : DrainEnd → Told
told_as ends.OutOfMemory = NoMemory
told_as end = Answered

-- the telling of a drain: what it put, each frame at its clock, and its events
abbrev pub telling_of : Drain → Telling
telling_of d = record { reply = drained_line (length d.calls) (unwrap_or d.ended ends.Turns); stations = []; frames = d.frames; times = d.times; events = events_in d.calls }

-- the same of what the code returns
abbrev pub telling_done : ran.Drained → Telling
telling_done done = record { reply = drained_line done.turns done.end; stations = []; frames = done.frames.items; times = done.times.items; events = joined done.parts.items }
