-- What a command to a node asks for, or the first fault: the commands of a script without the station's address, one definition for each
-- command's form.
use Rattle.std.specs.Prelude.{ℕ, ◌^◌, ◌-◌, List, [], ◌∷◌, length, ◌||◌, ◌==◌, Result, Ok, Err, nat_lt, if◌then◌else◌, codes}
use Rattle.std.specs.Str.{bytes_eq}
use Rattle.pgn_ids.specs.Pgn.{is_pgn}
use Rattle.segment_law.specs.declared.refusal.Refusal.TheVariants.{BadPgn}
use Rattle.script_commands.specs.Values.{◌>>=◌, address_of, number_of, pgn_of, payload_of}
use Rattle.line_faults.specs.declared.fault.Fault.{Fault}
use Rattle.line_faults.specs.declared.fault.Fault.TheVariants.{WrongNumberOfWords, UnknownCommand}
use Rattle.node_lines.specs.declared.command.NodeCommand.{NodeCommand}
use Rattle.node_lines.specs.declared.command.NodeCommand.TheVariants.{Send, Open, Close, Pause, Resume, Cancel, Missed, Counts, State, Refused}

abbrev pub Meaning : Type 0
Meaning = Result NodeCommand Fault

unfoldable pub send_of : List (List ℕ) → Meaning
send_of (t ∷ p ∷ rest) = if length rest == 0 || nat_lt 2 (length rest) then Err WrongNumberOfWords else (do
  to ← address_of t
  pgn ← pgn_of p
  bytes ← payload_of rest
  Ok (if is_pgn pgn then Send to pgn bytes else Refused BadPgn))
send_of words = Err WrongNumberOfWords

unfoldable pub open_of : List (List ℕ) → Meaning
open_of (p ∷ m ∷ []) = do
  pgn ← pgn_of p
  max_len ← number_of 4294967295 m
  Ok (if is_pgn pgn then Open pgn max_len else Refused BadPgn)
open_of words = Err WrongNumberOfWords

unfoldable pub close_of : List (List ℕ) → Meaning
close_of (n ∷ []) = do
  number ← number_of (2 ^ 64 - 1) n
  Ok (Close number)
close_of words = Err WrongNumberOfWords

unfoldable pub pause_of : List (List ℕ) → Meaning
pause_of (n ∷ []) = do
  number ← number_of (2 ^ 64 - 1) n
  Ok (Pause number)
pause_of words = Err WrongNumberOfWords

unfoldable pub resume_of : List (List ℕ) → Meaning
resume_of (n ∷ []) = do
  number ← number_of (2 ^ 64 - 1) n
  Ok (Resume number)
resume_of words = Err WrongNumberOfWords

unfoldable pub cancel_of : List (List ℕ) → Meaning
cancel_of (t ∷ n ∷ []) = do
  to ← address_of t
  number ← number_of (2 ^ 64 - 1) n
  Ok (Cancel to number)
cancel_of words = Err WrongNumberOfWords

unfoldable pub missed_of : List (List ℕ) → Meaning
missed_of [] = Ok Missed
missed_of words = Err WrongNumberOfWords

unfoldable pub counts_of : List (List ℕ) → Meaning
counts_of [] = Ok Counts
counts_of words = Err WrongNumberOfWords

unfoldable pub state_of : List (List ℕ) → Meaning
state_of [] = Ok State
state_of words = Err WrongNumberOfWords

-- the command is named by the first word
unfoldable pub command_of : List ℕ → List (List ℕ) → Meaning
command_of name words =
    if bytes_eq name (codes "send") then send_of words
    else if bytes_eq name (codes "open") then open_of words
    else if bytes_eq name (codes "close") then close_of words
    else if bytes_eq name (codes "pause") then pause_of words
    else if bytes_eq name (codes "resume") then resume_of words
    else if bytes_eq name (codes "cancel") then cancel_of words
    else if bytes_eq name (codes "missed") then missed_of words
    else if bytes_eq name (codes "counts") then counts_of words
    else if bytes_eq name (codes "state") then state_of words
    else Err UnknownCommand
