-- A line that was taken tells the text that stands in the run, and nothing in a log.
use Rattle.std.proofs.Common.{◌≡◌, List, [], ◌++◌, ℕ, Result, Ok, Err, sym, ◌∙◌, ap}
use Rattle.line_faults.specs.declared.fault.Fault.{Fault}
use Rattle.line_runs.specs.Outcome as lines
use Rattle.line_runs.specs.declared.running.Told.TheVariants.{Answered}
use Rattle.log_courses.specs.Course.{more}
use Rattle.bus_decode.specs.Listening.{Listening, Step, Read, line_seen}
use Rattle.bus_decode.specs.Outcome.{Reading, with_options, without_text, told_by, logged_by, error_of}
use Rattle.bus_decode.specs.declared.options.Options.{Options}
use Rattle.bus_decode.specs.declared.listening.LineError.{LineError}
use Rattle.bus_decode.specs.declared.listening.LineError.TheVariants as errors

seen : (done : Unit {0}) (new : Listening) (before after : List ℕ) (step : Result Step Fault) → before ≡ [] → Read (Ok done) new before after step → step ≡ Ok (new, after)
seen done new before after step z o = o.1 ∙ ap (λ (q : List ℕ). Ok (new, q)) (sym (o.2 ∙ ap (λ x. x ++ o.0) z))

pub was_told : (done : Unit {0}) (options : Options) (s new : Listening) (line before after : List ℕ) → before ≡ [] → Read (Ok done) new before after (line_seen options s (more s.1.lines) line)
    → lines.Obeyed {S = Reading} (Ok Answered) (options, new) after (told_by (options, s) line)
was_told done options s new line before after z o = ap (with_options options) (seen done new before after (line_seen options s (more s.1.lines) line) z o)

pub was_logged : (done : Unit {0}) (options : Options) (s new : Listening) (line before after : List ℕ) → before ≡ [] → Read (Ok done) new before after (line_seen options s (more s.1.lines) line)
    → lines.Obeyed {S = Reading} (Ok Answered) (options, new) [] (logged_by (options, s) line)
was_logged done options s new line before after z o = ap without_text (was_told done options s new line before after z o)

pub not_told : (error : LineError) (options : Options) (s read : Listening) (new : Reading) (line before after p : List ℕ) → Read (Err error) read before after (line_seen options s (more s.1.lines) line)
    → lines.Obeyed (Err (error_of error)) new p (told_by (options, s) line)
not_told errors.OutOfMemory options s read new line before after p o = tt
not_told errors.NotLogLine options s read new line before after p o = ap (with_options options) o

pub not_logged : (error : LineError) (options : Options) (s read : Listening) (new : Reading) (line before after p : List ℕ) → Read (Err error) read before after (line_seen options s (more s.1.lines) line)
    → lines.Obeyed (Err (error_of error)) new p (logged_by (options, s) line)
not_logged errors.OutOfMemory options s read new line before after p o = tt
not_logged errors.NotLogLine options s read new line before after p o = ap without_text (not_told errors.NotLogLine options s read new line before after p o)
