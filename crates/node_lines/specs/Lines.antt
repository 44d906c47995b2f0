-- What a line of a node's standard input means, or the first fault in it: a line of the bus's log, the time, or a command.
use Rattle.std.specs.Prelude.{ℕ, List, [], ◌∷◌, Bool, false, Option, Some, None, Result, Ok, Err, ◌==◌, if◌then◌else◌, codes}
use Rattle.std.specs.Str.{bytes_eq}
use Rattle.log_fields.specs.Time.{time_word}
use Rattle.log_text.specs.Line.{log_line}
use Rattle.log_text.specs.Reading.{before_return}
use Rattle.log_text.specs.declared.line.LogLine.{LogLine}
use Rattle.log_text.specs.declared.line.LogLine.TheVariants as logged
use Rattle.script_commands.specs.Words.{is_ascii, words_of}
use Rattle.script_commands.specs.Values.{◌>>=◌, or_bad}
use Rattle.line_faults.specs.declared.fault.Fault.{Fault}
use Rattle.line_faults.specs.declared.fault.Fault.TheVariants.{NotAscii, UnknownCommand, WrongNumberOfWords}
use Rattle.node_lines.specs.Commands.{command_of}
use Rattle.node_lines.specs.declared.line.NodeLine.{NodeLine}
use Rattle.node_lines.specs.declared.line.NodeLine.TheVariants.{Passed, Frame, Now, Command}

abbrev pub Meaning : Type 0
Meaning = Result NodeLine Fault

-- now SECONDS.MICROS
unfoldable pub now_of : List (List ℕ) → Meaning
now_of (word ∷ []) = do
  time ← or_bad (time_word word)
  Ok (Now time)
now_of words = Err WrongNumberOfWords

-- the time or a command, named by the first word; a line without a word is passed over
unfoldable pub words_meaning : List (List ℕ) → Meaning
words_meaning [] = Ok Passed
words_meaning (name ∷ words) = if bytes_eq name (codes "now") then now_of words else (do
  command ← command_of name words
  Ok (Command command))

-- a line that begins with a bracket is one of the log
abbrev pub has_bracket : List ℕ → Bool
has_bracket [] = false
has_bracket (b ∷ bs) = b == 40

-- a frame is shown; or the line isn't one of a log although it begins as one; or no frame is shown
abbrev pub by_log : List ℕ → Option LogLine → Meaning
by_log line None = Err UnknownCommand
by_log line (Some (logged.Frame time iface frame)) = Ok (Frame time iface frame)
by_log line (Some logged.Passed) = if has_bracket line then Ok Passed else words_meaning (words_of line)

abbrev pub bare_meaning : List ℕ → Meaning
bare_meaning line = if is_ascii line then by_log line (log_line line) else Err NotAscii

-- a carriage return at its end is ignored
unfoldable pub node_line : List ℕ → Meaning
node_line line = bare_meaning (before_return line)
