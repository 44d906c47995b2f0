-- The outcome of a log: that of its lines up to its fault, or else of its lines and its end.
use Rattle.std.specs.Prelude.{ℕ, List, [], ◌++◌, Some, None, Result, Ok, Err}
use Rattle.line_faults.specs.declared.fault.Fault.{Fault}
use Rattle.line_faults.specs.declared.fault.Fault.TheVariants.{NotLogLine}
use Rattle.line_faults.specs.declared.fault.LineError.{LineError as ScriptError}
use Rattle.line_faults.specs.declared.fault.LineError.TheVariants as script_errors
use Rattle.line_runs.specs.Limits.{log_limits}
use Rattle.line_runs.specs.Outcome as lines
use Rattle.log_courses.specs.Course.{more}
use Rattle.bus_decode.specs.Counts.{no_counts}
use Rattle.bus_decode.specs.Listening.{Hearing, Listening, Step, first_listener, line_seen, ended_counts, ended_text}
use Rattle.bus_decode.specs.declared.counts.Counts.{Counts}
use Rattle.bus_decode.specs.declared.options.Options.{Options}
use Rattle.bus_decode.specs.declared.listening.LineError.{LineError}
use Rattle.bus_decode.specs.declared.listening.LineError.TheVariants as errors

-- the options, and what was heard so far
abbrev pub Reading : Type 0
Reading = Options × Listening

abbrev pub with_options : Options → Result Step Fault → Result (Reading × List ℕ) Fault
with_options options (Ok step) = Ok ((options, step.0), step.1)
with_options options (Err f) = Err f

-- a line is taken by its number: it is the one behind those that were counted
abbrev pub told_by : lines.Steps Reading
told_by s line = with_options s.0 (line_seen s.0 s.1 (more s.1.1.lines) line)

-- the log of a line is empty
abbrev pub without_text : Result (Reading × List ℕ) Fault → Result (Reading × List ℕ) Fault
without_text (Ok done) = Ok (done.0, [])
without_text (Err f) = Err f

abbrev pub logged_by : lines.Steps Reading
logged_by s line = without_text (told_by s line)

-- why a line ends the run
abbrev pub error_of : LineError → ScriptError
error_of errors.OutOfMemory = script_errors.OutOfMemory
error_of errors.NotLogLine = script_errors.Fault NotLogLine

-- what is printed, with the fault and its line, if there is one; and what was counted
pub record Outcome : Type 0 where
  pub told : lines.Outcome
  pub counts : Counts

-- no line is left
abbrev pub last_outcome : Options → Hearing → Outcome
last_outcome options s = record { told = record { text = ended_text options s; fault = None }; counts = ended_counts options s }

-- the lines told this and left what was heard: the end follows, unless one of them ended the run, which isn't counted
abbrev pub then_end : Options → lines.Outcome → Listening → Outcome
then_end options o s = elim o.fault [
  | None ↦ record { told = record { text = o.text ++ ended_text options (s.0.0, s.1); fault = None }; counts = ended_counts options (s.0.0, s.1) }
  | Some f ↦ record { told = o; counts = s.1 }
]

-- nothing was heard, no line had a form, and nothing was counted
abbrev pub first_listening : Options → Listening
first_listening options = ((first_listener options.most, None), no_counts)

abbrev pub outcome : Options → List ℕ → Outcome
outcome options log =
    let first : Reading = (options, first_listening options) in
    then_end options (lines.outcome log_limits told_by first log) (lines.left log_limits told_by first log).1
