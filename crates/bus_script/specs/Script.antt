-- The outcome of a script, line by line, up to its fault.
use Rattle.std.specs.Prelude.{◌≡◌, ℕ, List, [], ◌∷◌, ◌++◌, map, Option, Some, None, Result, Ok, Err, if◌then◌else◌, option_to_list}
use Rattle.bus_frame.specs.Frames.{CanFrame}
use Rattle.pgn_ids.specs.declared.address.Address.{Address}
use Rattle.segment_law.specs.Segment.{Segment, are_addresses, new_segment}
use Rattle.segment_law.specs.Readers.{front_at}
use Rattle.segment_law.specs.Calls.{applied, events_of}
use Rattle.segment_law.specs.Drive.{driven, end_of, events_in}
use Rattle.segment_law.specs.declared.call.Call.{Call}
use Rattle.segment_law.specs.declared.call.Call.TheVariants.{Transmit, Inject}
use Rattle.segment_law.specs.declared.refusal.Refusal.TheVariants.{BadAddresses}
use Rattle.segment_law.specs.declared.reply.Reply.{Reply}
use Rattle.segment_law.specs.declared.reply.Reply.TheVariants.{Done}
use Rattle.script_commands.specs.Words.{words_of}
use Rattle.script_commands.specs.Values.{◌>>=◌}
use Rattle.script_commands.specs.Commands.{command_of}
use Rattle.line_faults.specs.declared.fault.Fault.{Fault}
use Rattle.line_faults.specs.declared.fault.Fault.TheVariants.{NotAscii, NoStations, StationsTwice}
use Rattle.script_commands.specs.declared.command.Command.{Command}
use Rattle.script_commands.specs.declared.command.Command.TheVariants as commands
use Rattle.line_faults.specs.declared.fault.LineError.{LineError}
use Rattle.line_faults.specs.declared.fault.LineError.TheVariants as errors
use Rattle.script_text.specs.Replies.{reply_line, drove_line}
use Rattle.script_commands.specs.Words.{is_ascii}
use Rattle.bus_script.specs.Telling.{Telling, reply_alone, made_of, refused_by, counted}
use Rattle.bus_script.specs.Turns.{turn_times}
use Rattle.bus_script.specs.Draining.{telling_of}
use Rattle.segment_drain.specs.Drains.{drained}
use Rattle.line_runs.specs.Limits.{script_limits}
use Rattle.line_runs.specs.Outcome as lines
use Rattle.line_runs.specs.declared.running.Told.{Told}
use Rattle.line_runs.specs.declared.running.Told.TheVariants.{Answered, NoMemory}

-- the segment afterwards, if there is one, and the telling of the line
abbrev pub Step : Type 0
Step = Result (Option Segment × Telling) Fault

-- the segment is made, or its addresses are refused
abbrev pub made : List Address → Step
made addresses =
    if are_addresses addresses then Ok (Some (new_segment addresses), made_of addresses)
    else Ok (None, refused_by BadAddresses)

-- the frame that a call puts on the bus if it is done
abbrev pub frame_put : Segment → Call → Option CanFrame
frame_put s (Transmit station) = front_at s station
frame_put s (Inject frame) = Some frame
frame_put s _ = None

-- only a call that is done puts its frame
abbrev pub frames_put : Option CanFrame → Reply → List CanFrame
frames_put put (Done events) = option_to_list put
frames_put put _ = []

-- the reply, the frame that was put, which is put at the clock at which the call is made, and the events
abbrev pub told_of : ℕ → Option CanFrame → Reply → Telling
told_of now put reply = record { reply = reply_line reply; stations = []; frames = frames_put put reply; times = map (λ (frame : CanFrame). now) (frames_put put reply); events = events_of reply }

abbrev pub called : Segment → Call → Step
called s call = Ok (Some (applied s call).0, told_of s.now (frame_put s call) (applied s call).1)

abbrev pub drove : Segment → (from to : Address) → (turns : ℕ) → Step
drove s from to turns =
    let d = driven s from to turns in
    Ok (Some d.segment, record { reply = drove_line d.turns (end_of d); stations = []; frames = d.frames; times = turn_times turns from to s; events = events_in d.calls })

abbrev pub drains : Segment → (turns : ℕ) → Step
drains s turns = Ok (Some (drained s turns).segment, telling_of (drained s turns))

-- a command to a segment that is there
abbrev pub on_segment : Segment → Command → Step
on_segment s (commands.Stations addresses) = Err StationsTwice
on_segment s (commands.Call call) = called s call
on_segment s (commands.Drive from to turns) = drove s from to turns
on_segment s (commands.Drain turns) = drains s turns
on_segment s commands.Counts = Ok (Some s, counted s.counts)
on_segment s (commands.Refused cause) = Ok (Some s, refused_by cause)

-- until the segment is made, each other command is a fault
abbrev pub without_segment : Command → Step
without_segment (commands.Stations addresses) = made addresses
without_segment _ = Err NoStations

unfoldable pub perform : Option Segment → Command → Step
perform None command = without_segment command
perform (Some s) command = on_segment s command

-- a line without a word is passed over
unfoldable pub obey_words : Option Segment → List (List ℕ) → Step
obey_words s [] = Ok (s, reply_alone [])
obey_words s (name ∷ words) = do
  command ← command_of name words
  perform s command

unfoldable pub obey_line : Option Segment → List ℕ → Step
obey_line s text = if is_ascii text then obey_words s (words_of text) else Err NotAscii

-- a line's text is the part of its telling that a view shows
abbrev pub shown_by : (Telling → List ℕ) → Step → Result (Option Segment × List ℕ) Fault
shown_by view (Ok done) = Ok (done.0, view done.1)
shown_by view (Err f) = Err f

abbrev pub told_in : (Telling → List ℕ) → lines.Steps (Option Segment)
told_in view s line = shown_by view (obey_line s line)

abbrev pub outcome : (Telling → List ℕ) → List ℕ → lines.Outcome
outcome view script = lines.outcome script_limits (told_in view) None script

-- How the code obeyed a line

-- the telling of a step
abbrev pub told_by : Step → Telling
told_by (Ok done) = done.1
told_by (Err f) = reply_alone []

-- how a step went, to the segment new and from a text to another
abbrev pub Obeyed : (Telling → List ℕ) → Result Told LineError → Option Segment → (old text : List ℕ) → Step → Type 0
Obeyed view (Ok Answered) new old text step = (step ≡ Ok (new, told_by step)) × (text ≡ old ++ view (told_by step))
Obeyed view (Ok NoMemory) new old text step = Unit {0}
Obeyed view (Err (errors.Fault f)) new old text step = step ≡ Err f
Obeyed view (Err errors.OutOfMemory) new old text step = Unit {0}
