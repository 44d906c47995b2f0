-- The counts of a log.
use Rattle.std.specs.Prelude.{ℕ, List, [], ◌++◌, codes, fold, Bool, ◌&&◌, not, ◌==◌, if◌then◌else◌, Option}
use Rattle.bus_frame.specs.Frames.{CanFrame}
use Rattle.tp_wire.specs.Reading.{is_transport, is_malformed}
use Rattle.log_reports.specs.declared.stray.Stray.{Stray}
use Rattle.log_reports.specs.declared.told.Told.{Told}
use Rattle.log_reports.specs.declared.told.Told.TheVariants.{Given, Aborted, Lost}
use Rattle.bus_decode.specs.Options.{is_told_asked}
use Rattle.log_courses.specs.Course.{more}
use Rattle.bus_decode.specs.Strays.{no_strays, with_stray, number_text}
use Rattle.bus_decode.specs.declared.counts.Counts.{Counts}
use Rattle.bus_decode.specs.declared.options.Options.{Options}

-- nothing was counted
abbrev pub no_counts : Counts
no_counts = record { lines = 0; passed = 0; wrong = 0; frames = 0; earlier = 0; transport = 0; malformed = 0; strays = no_strays; messages = 0; aborted = 0; lost = 0 }

abbrev pub more_if : Bool → ℕ → ℕ
more_if b n = if b then more n else n

-- a frame was seen, with a time before that of the one before or not
abbrev pub with_frame : CanFrame → (is_earlier : Bool) → Counts → Counts
with_frame frame is_earlier c = record c {
  frames = more c.frames;
  earlier = more_if is_earlier c.earlier;
  transport = more_if (is_transport frame) c.transport;
  malformed = more_if (is_malformed frame) c.malformed;
}

-- a frame that belongs to no message counts by its kind
abbrev pub with_strays : Option Stray → Counts → Counts
with_strays stray c = record c { strays = with_stray stray c.strays }

-- a report is counted
abbrev pub with_told : Told → Counts → Counts
with_told (Given key pgn bytes) c = record c { messages = more c.messages }
with_told (Aborted key pgn reason who) c = record c { aborted = more c.aborted }
with_told (Lost key pgn have size cause) c = record c { lost = more c.lost }

-- a report is counted if it was asked for
abbrev pub with_asked : Options → Counts → Told → Counts
with_asked options c t = if is_told_asked options t then with_told t c else c

abbrev pub with_each : Options → Counts → List Told → Counts
with_each options c told = fold (with_asked options) c told

abbrev pub lines_text : Counts → List ℕ
lines_text c = number_text (codes "lines ") c.lines ++ number_text (codes " passed ") c.passed ++ number_text (codes " frames ") c.frames

abbrev pub frames_text : Counts → List ℕ
frames_text c = number_text (codes " earlier ") c.earlier ++ number_text (codes " transport ") c.transport ++ number_text (codes " malformed ") c.malformed

abbrev pub messages_text : Counts → List ℕ
messages_text c = number_text (codes " messages ") c.messages ++ number_text (codes " aborted ") c.aborted ++ number_text (codes " lost ") c.lost

-- the words for a log in which lines were wrong, or none shows a frame
abbrev pub rest_text : Counts → List ℕ
rest_text c =
    if not (c.wrong == 0) then number_text (codes " wrong ") c.wrong
    else if not (c.lines == 0) && c.passed == c.lines then codes ": every line was passed over"
    else []

-- each number behind its name
abbrev pub counts_text : Counts → List ℕ
counts_text c = lines_text c ++ frames_text c ++ messages_text c ++ rest_text c
