-- Frames, outcomes and counts as C reads them.
use Rattle.std.specs.Prelude.{ℕ, ◌-◌, ◌++◌, length, replicate}
use Rattle.bus_frame.specs.Frames.{CanFrame}
use Rattle.tp_wire.specs.declared.outcome.Outcome.{Outcome}
use Rattle.tp_wire.specs.declared.outcome.Outcome.TheVariants as end
use Rattle.segment_law.specs.declared.counts.Counts.{Counts}
use Rattle.c_parts.specs.declared.shown.CFrame.{CFrame}
use Rattle.c_parts.specs.declared.shown.CCounts.{CCounts}

-- what follows the bytes of a frame is 0
abbrev pub shown_frame : CanFrame → CFrame
shown_frame frame = record { id = frame.id; len = length frame.bytes; bytes = frame.bytes ++ replicate (8 - length frame.bytes) 0 }

-- the number of an outcome, from 1
abbrev pub outcome_number : Outcome → ℕ
outcome_number end.Acknowledged = 1
outcome_number end.Broadcast = 2
outcome_number (end.Aborted reason) = 3
outcome_number end.TimedOut = 4
outcome_number end.Overrun = 5
outcome_number end.Cancelled = 6
outcome_number end.Unreachable = 7

-- the reason of an abort; of the others 0
abbrev pub outcome_reason : Outcome → ℕ
outcome_reason end.Acknowledged = 0
outcome_reason end.Broadcast = 0
outcome_reason (end.Aborted reason) = reason
outcome_reason end.TimedOut = 0
outcome_reason end.Overrun = 0
outcome_reason end.Cancelled = 0
outcome_reason end.Unreachable = 0

abbrev pub shown_counts : Counts → CCounts
shown_counts c = record {
  frames = c.frames;
  malformed = c.malformed;
  given = c.given;
  acknowledged = c.acknowledged;
  broadcast = c.broadcast;
  aborted = c.aborted;
  timed_out = c.timed_out;
  overrun = c.overrun;
  cancelled = c.cancelled;
  unreachable = c.unreachable;
}
