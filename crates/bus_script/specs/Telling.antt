-- The telling of a script's line, and how it is shown: in one text, or with the frames in a log and the rest in a text.
use Rattle.std.specs.Prelude.{ℕ, ◌*◌, ◌-◌, ◌^◌, List, [], ◌++◌, flat_map, min, codes}
use Rattle.std.specs.List.{zip}
use Rattle.bus_frame.specs.Frames.{CanFrame}
use Rattle.pgn_ids.specs.declared.address.Address.{Address}
use Rattle.message_events.specs.declared.event.Event.{Event}
use Rattle.log_fields.specs.Iface.{bus0}
use Rattle.log_text.specs.Written.{log_text}
use Rattle.script_text.specs.Parts.{line}
use Rattle.segment_law.specs.declared.refusal.Refusal.{Refusal}
use Rattle.segment_law.specs.declared.counts.Counts.{Counts}
use Rattle.script_text.specs.Replies.{refusal_text, put_lines, event_lines}
use Rattle.script_text.specs.Counts.{counts_line}

-- the line of the reply, the stations if the segment was made, the frames that were put, the clock at which each of them was put, and
-- the events
pub record Telling : Type 0 where
  pub reply : List ℕ
  pub stations : List Address
  pub frames : List CanFrame
  pub times : List ℕ
  pub events : List Event

abbrev pub reply_alone : List ℕ → Telling
reply_alone reply = record { reply = reply; stations = []; frames = []; times = []; events = [] }

-- the telling of a segment that was made of these stations
abbrev pub made_of : List Address → Telling
made_of addresses = record (reply_alone (line (codes "done"))) { stations = addresses }

abbrev pub refused_by : Refusal → Telling
refused_by cause = reply_alone (line (refusal_text cause))

abbrev pub counted : Counts → Telling
counted counts = reply_alone (counts_line counts)

-- a call found no memory
abbrev pub without_memory : Telling
without_memory = reply_alone (line (codes "no memory"))

-- a tick is a thousand microseconds; the last time of a log is that of 2 ^ 64 - 1 microseconds
abbrev pub log_time : ℕ → ℕ
log_time now = min (now * 1000) (2 ^ 64 - 1)

-- a frame that was put, in a log
unfoldable pub log_line : ℕ → CanFrame → List ℕ
log_line now frame = line (log_text (log_time now) bus0 frame)

-- frames that were put at the same time
abbrev pub log_at : ℕ → List CanFrame → List ℕ
log_at now frames = flat_map (log_line now) frames

-- all in one text: the reply, below it the frames, then the events
abbrev pub whole : Telling → List ℕ
whole told = told.reply ++ put_lines told.frames ++ event_lines told.events

-- the frames alone, each at its time, and all the rest
abbrev pub put_at : ℕ × CanFrame → List ℕ
put_at put = log_line put.0 put.1

abbrev pub frames_alone : Telling → List ℕ
frames_alone told = flat_map put_at (zip told.times told.frames)

abbrev pub without_frames : Telling → List ℕ
without_frames told = told.reply ++ event_lines told.events

-- the view that shows nothing, if no log is kept
abbrev pub nothing : Telling → List ℕ
nothing told = []
