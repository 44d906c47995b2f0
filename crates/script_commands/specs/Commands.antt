-- What the words of a line ask for, or the first fault: one definition for each command's form.
use Rattle.std.specs.Prelude.{ℕ, ◌^◌, ◌-◌, List, [], ◌∷◌, length, ◌||◌, ◌==◌, Result, Ok, Err, nat_lt, nat_le, if◌then◌else◌, codes}
use Rattle.std.specs.Str.{bytes_eq}
use Rattle.pgn_ids.specs.Pgn.{is_pgn}
use Rattle.segment_law.specs.declared.call.Call.TheVariants as calls
use Rattle.segment_law.specs.declared.refusal.Refusal.TheVariants.{IdTooLarge, DataTooLong, BadPgn}
use Rattle.script_commands.specs.Values.{◌>>=◌, address_of, addresses_of, number_of, pgn_of, id_of, data_of, port_of, room_of, payload_of}
use Rattle.line_faults.specs.declared.fault.Fault.{Fault}
use Rattle.line_faults.specs.declared.fault.Fault.TheVariants.{WrongNumberOfWords, UnknownCommand}
use Rattle.script_commands.specs.declared.command.Command.{Command}
use Rattle.script_commands.specs.declared.command.Command.TheVariants.{Stations, Call, Drive, Drain, Counts, Refused}

abbrev pub Meaning : Type 0
Meaning = Result Command Fault

unfoldable pub stations_of : List (List ℕ) → Meaning
stations_of [] = Err WrongNumberOfWords
stations_of (word ∷ words) = do
  addresses ← addresses_of (word ∷ words)
  Ok (Stations addresses)

unfoldable pub open_of : List (List ℕ) → Meaning
open_of (a ∷ p ∷ m ∷ []) = do
  station ← address_of a
  pgn ← pgn_of p
  max_len ← number_of 4294967295 m
  Ok (if is_pgn pgn then Call (calls.Open station pgn max_len) else Refused BadPgn)
open_of words = Err WrongNumberOfWords

unfoldable pub close_of : List (List ℕ) → Meaning
close_of (p ∷ []) = do
  port ← port_of p
  Ok (Call (calls.Close port))
close_of words = Err WrongNumberOfWords

unfoldable pub send_of : List (List ℕ) → Meaning
send_of (a ∷ b ∷ p ∷ rest) = if length rest == 0 || nat_lt 2 (length rest) then Err WrongNumberOfWords else (do
  from ← address_of a
  to ← address_of b
  pgn ← pgn_of p
  bytes ← payload_of rest
  Ok (if is_pgn pgn then Call (calls.Send from to pgn bytes) else Refused BadPgn))
send_of words = Err WrongNumberOfWords

unfoldable pub pump_of : List (List ℕ) → Meaning
pump_of (a ∷ b ∷ []) = do
  station ← address_of a
  to ← address_of b
  Ok (Call (calls.Pump station to))
pump_of words = Err WrongNumberOfWords

unfoldable pub transmit_of : List (List ℕ) → Meaning
transmit_of (a ∷ []) = do
  station ← address_of a
  Ok (Call (calls.Transmit station))
transmit_of words = Err WrongNumberOfWords

unfoldable pub fire_of : List (List ℕ) → Meaning
fire_of (a ∷ []) = do
  station ← address_of a
  Ok (Call (calls.Fire station))
fire_of words = Err WrongNumberOfWords

unfoldable pub tick_of : List (List ℕ) → Meaning
tick_of (n ∷ []) = do
  ticks ← number_of (2 ^ 64 - 1) n
  Ok (Call (calls.Tick ticks))
tick_of words = Err WrongNumberOfWords

unfoldable pub take_of : List (List ℕ) → Meaning
take_of [] = Err WrongNumberOfWords
take_of (a ∷ rest) = if nat_lt 1 (length rest) then Err WrongNumberOfWords else (do
  station ← address_of a
  room ← room_of rest
  Ok (Call (calls.Take station room)))

unfoldable pub again_of : List (List ℕ) → Meaning
again_of [] = Err WrongNumberOfWords
again_of (a ∷ rest) = if nat_lt 1 (length rest) then Err WrongNumberOfWords else (do
  station ← address_of a
  room ← room_of rest
  Ok (Call (calls.TakeAgain station room)))

unfoldable pub overrun_of : List (List ℕ) → Meaning
overrun_of (a ∷ n ∷ []) = do
  station ← address_of a
  missed ← number_of (2 ^ 64 - 1) n
  Ok (Call (calls.Overrun station missed))
overrun_of words = Err WrongNumberOfWords

unfoldable pub cancel_of : List (List ℕ) → Meaning
cancel_of (a ∷ b ∷ n ∷ []) = do
  from ← address_of a
  to ← address_of b
  number ← number_of (2 ^ 64 - 1) n
  Ok (Call (calls.Cancel from to number))
cancel_of words = Err WrongNumberOfWords

unfoldable pub pause_of : List (List ℕ) → Meaning
pause_of (p ∷ []) = do
  port ← port_of p
  Ok (Call (calls.Pause port))
pause_of words = Err WrongNumberOfWords

unfoldable pub resume_of : List (List ℕ) → Meaning
resume_of (p ∷ []) = do
  port ← port_of p
  Ok (Call (calls.Resume port))
resume_of words = Err WrongNumberOfWords

unfoldable pub inject_of : List (List ℕ) → Meaning
inject_of (i ∷ h ∷ []) = do
  id ← id_of i
  bytes ← data_of h
  Ok (if nat_le (2 ^ 29) id then Refused IdTooLarge
      else if nat_lt 8 (length bytes) then Refused DataTooLong
      else Call (calls.Inject (record { id = id; bytes = bytes })))
inject_of words = Err WrongNumberOfWords

unfoldable pub drive_of : List (List ℕ) → Meaning
drive_of (a ∷ b ∷ n ∷ []) = do
  from ← address_of a
  to ← address_of b
  turns ← number_of (2 ^ 64 - 1) n
  Ok (Drive from to turns)
drive_of words = Err WrongNumberOfWords

unfoldable pub drain_of : List (List ℕ) → Meaning
drain_of (n ∷ []) = do
  turns ← number_of (2 ^ 64 - 1) n
  Ok (Drain turns)
drain_of words = Err WrongNumberOfWords

unfoldable pub counts_of : List (List ℕ) → Meaning
counts_of [] = Ok Counts
counts_of words = Err WrongNumberOfWords

unfoldable pub later_command_of : List ℕ → List (List ℕ) → Meaning
later_command_of name words =
    if bytes_eq name (codes "take") then take_of words
    else if bytes_eq name (codes "again") then again_of words
    else if bytes_eq name (codes "overrun") then overrun_of words
    else if bytes_eq name (codes "cancel") then cancel_of words
    else if bytes_eq name (codes "pause") then pause_of words
    else if bytes_eq name (codes "resume") then resume_of words
    else if bytes_eq name (codes "inject") then inject_of words
    else if bytes_eq name (codes "drive") then drive_of words
    else if bytes_eq name (codes "drain") then drain_of words
    else if bytes_eq name (codes "counts") then counts_of words
    else Err UnknownCommand

-- the command is named by the first word
unfoldable pub command_of : List ℕ → List (List ℕ) → Meaning
command_of name words =
    if bytes_eq name (codes "stations") then stations_of words
    else if bytes_eq name (codes "open") then open_of words
    else if bytes_eq name (codes "close") then close_of words
    else if bytes_eq name (codes "send") then send_of words
    else if bytes_eq name (codes "pump") then pump_of words
    else if bytes_eq name (codes "transmit") then transmit_of words
    else if bytes_eq name (codes "fire") then fire_of words
    else if bytes_eq name (codes "tick") then tick_of words
    else later_command_of name words
