-- The output of each line of a log.
use Rattle.std.specs.Prelude.{◌≡◌, ℕ, List, [], ◌++◌, Bool, ◌&&◌, ◌||◌, not, ◌==◌, nat_lt, if◌then◌else◌, Option, Some, None, Result, Ok, Err, unwrap_or}
use Rattle.bus_frame.specs.Frames.{CanFrame}
use Rattle.pgn_ids.specs.Identifier.{meaning_of}
use Rattle.tp_wire.specs.Groups.{request, acknowledgement}
use Rattle.tp_wire.specs.Reading.{is_transport}
use Rattle.log_text.specs.Reading.{form_of, line_as}
use Rattle.log_text.specs.declared.reading.Form.{Form}
use Rattle.log_fields.specs.declared.iface.Iface.{Iface}
use Rattle.log_text.specs.declared.line.LogLine.{LogLine}
use Rattle.log_text.specs.declared.line.LogLine.TheVariants.{Frame, Passed}
use Rattle.log_courses.specs.Awaited.{Awaited, awaiting_each}
use Rattle.log_reports.specs.declared.marks.Place.{Place}
use Rattle.log_decode.specs.View.{State, bus_at}
use Rattle.log_decode.specs.Decoder.{taken, ended}
use Rattle.log_decode.specs.Stray.{stray_seen}
use Rattle.log_courses.specs.Strays.{stray_left}
use Rattle.log_courses.specs.Course.{more}
use Rattle.bus_decode.specs.Counts.{with_frame, with_strays, with_each}
use Rattle.log_reports.specs.declared.stray.Stray.{Stray}
use Rattle.log_reports.specs.declared.told.Told.{Told}
use Rattle.bus_decode.specs.Followed.{none_followed, heard_followed, left_followed}
use Rattle.bus_decode.specs.Options.{shows_singles}
use Rattle.bus_decode.specs.Telling.{told_text, summary_text, single_text, wrong_text}
use Rattle.bus_decode.specs.declared.followed.Followed.{Followed}
use Rattle.bus_decode.specs.declared.counts.Counts.{Counts}
use Rattle.bus_decode.specs.declared.listener.Listener.{Listener}
use Rattle.bus_decode.specs.declared.options.Options.{Options}
use Rattle.bus_decode.specs.declared.listening.LineError.{LineError}
use Rattle.bus_decode.specs.declared.listening.LineError.TheVariants as errors
use Rattle.line_faults.specs.declared.fault.Fault.{Fault}
use Rattle.line_faults.specs.declared.fault.Fault.TheVariants.{NotLogLine}

-- nothing was heard
abbrev pub first_listener : (most : ℕ) → Listener
first_listener most = record { decoder = record { most = most; time = 0; buses = [] }; followed = none_followed; awaited = [] }

-- a listener, and what was counted
abbrev pub Hearing : Type 0
Hearing = Listener × Counts

-- a listener, the form of the log's lines, if a line had one, and what was counted
abbrev pub Listening : Type 0
Listening = (Listener × Option Form) × Counts

-- the listening afterwards, and the output
abbrev pub Step : Type 0
Step = Listening × List ℕ

-- a Request or an Acknowledgement
abbrev pub is_asking : CanFrame → Bool
is_asking frame = (meaning_of frame.id).pgn == request || (meaning_of frame.id).pgn == acknowledgement

-- a frame that carries nothing of a message, if it is asked for
abbrev pub single : ℕ → Iface → Options → CanFrame → List ℕ
single now iface options frame = if shows_singles options && (not (is_transport frame) || is_asking frame) then single_text now iface options frame else []

-- a listener to a frame that was counted, and the output. The frame's place in the log is its number and the time to which it brings the
-- interface
abbrev pub frame_told : Options → Iface → CanFrame → Followed → Awaited → State × List Told → Counts → Hearing × List ℕ
frame_told options iface frame f awaited t counts =
    let place : Place = record { number = counts.frames; time = t.0.time } in
    ((record { decoder = t.0; followed = heard_followed options iface frame place t.1 f; awaited = awaiting_each t.1 awaited }, counts), told_text place options t.1 f ++ single t.0.time iface options frame)

-- the counts of a frame, of no message or of one, with these reports
abbrev pub frame_counts : Options → CanFrame → (is_earlier : Bool) → Option Stray → List Told → Counts → Counts
frame_counts options frame is_earlier stray told c = with_each options (with_strays stray (with_frame frame is_earlier c)) told

-- a frame is seen at a time on an interface: its reports are counted and printed
unfoldable pub frame_seen : Options → Hearing → (time : ℕ) → Iface → CanFrame → Hearing × List ℕ
frame_seen options s time iface frame =
    let t = taken s.0.decoder time iface frame [] in
    let left = stray_left (stray_seen s.0.decoder time iface frame) iface frame s.0.awaited in
    frame_told options iface frame s.0.followed left.0 t (frame_counts options frame (nat_lt time (bus_at iface s.0.decoder.buses).time) left.1 t.1 s.1)

abbrev pub with_line : Counts → Counts
with_line c = record c { lines = more c.lines }

-- a line that doesn't say when is taken at the time of the last frame of its interface
unfoldable pub shown_seen : Options → Hearing → LogLine → Hearing × List ℕ
shown_seen options s Passed = ((s.0, record s.1 { passed = more s.1.passed }), [])
shown_seen options s (Frame time iface frame) = frame_seen options s (unwrap_or time (bus_at iface s.0.decoder.buses).time) iface frame

-- the form of a log is that of its first line that has one
abbrev pub form_with : Option Form → List ℕ → Option Form
form_with None line = form_of line
form_with (Some form) line = Some form

-- a wrong line, by its number, ends the run if the options say so; else it is reported and counted
abbrev pub wrong_seen : Options → Listening → ℕ → Result Step Fault
wrong_seen options s n = if options.strict then Err NotLogLine else Ok ((s.0, record s.1 { wrong = more s.1.wrong }), wrong_text options n)

abbrev pub with_form : Option Form → Hearing × List ℕ → Step
with_form form t = (((t.0.0, form), t.0.1), t.1)

-- line n in a log of this form
unfoldable pub seen_as : Options → Option Form → Hearing → ℕ → List ℕ → Result Step Fault
seen_as options form s n line = elim (line_as form line) [ None ↦ wrong_seen options ((s.0, form), s.1) n | Some shown ↦ Ok (with_form form (shown_seen options s shown)) ]

abbrev pub line_seen : Options → Listening → ℕ → List ℕ → Result Step Fault
line_seen options s n line = seen_as options (form_with s.0.1 line) (s.0.0, with_line s.1) n line

-- at the end of the log each message that is still under way is lost, and then the summary is printed
abbrev pub ended_counts : Options → Hearing → Counts
ended_counts options s = with_each options s.1 (ended s.0.decoder.buses)

abbrev pub ended_text : Options → Hearing → List ℕ
ended_text options s =
    let place : Place = record { number = s.1.frames; time = s.0.decoder.time } in
    told_text place options (ended s.0.decoder.buses) s.0.followed ++ summary_text options (left_followed options place (ended s.0.decoder.buses) s.0.followed).summary

-- How the code read a line

-- a step went so, to the listener new, with what it prints put behind a
abbrev pub Seen : Hearing → (a b : List ℕ) → Hearing × List ℕ → Type 0
Seen new a b step = (step.0 ≡ new) × (b ≡ a ++ step.1)

abbrev pub Read : Result (Unit {0}) LineError → Listening → (a b : List ℕ) → Result Step Fault → Type 0
Read (Ok done) new a b step = (printed : List ℕ) × (step ≡ Ok (new, printed)) × (b ≡ a ++ printed)
Read (Err errors.NotLogLine) new a b step = step ≡ Err NotLogLine
Read (Err errors.OutOfMemory) new a b step = Unit {0}
