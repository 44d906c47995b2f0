-- A table over a list of calls.
use Rattle.std.specs.Prelude.{ℕ, true, false, List, [], ◌∷◌, Option, Some, None}
use Rattle.port_table.specs.Ports.{Ports, next_id, with_port, without_port, with_paused}
use Rattle.port_table.specs.Refusals.{opening_refusal, closing_refusal, pausing_refusal, resuming_refusal}
use Rattle.port_table.specs.declared.refused.Refused.{Refused}

-- a call that can change a table
pub data PortCall : Type 0 where
  Open : (pgn max_len : ℕ) → PortCall
  Close : ℕ → PortCall
  Pause : ℕ → PortCall
  Resume : ℕ → PortCall

-- a refused call changes nothing
abbrev pub unless_refused : Option Refused → (before after : Ports) → Ports
unless_refused None before after = after
unless_refused (Some cause) before after = before

abbrev pub after_call : Ports → PortCall → Ports
after_call ports (Open pgn max_len) = unless_refused (opening_refusal ports) ports (with_port ports pgn max_len)
after_call ports (Close number) = unless_refused (closing_refusal ports number) ports (without_port ports number)
after_call ports (Pause number) = unless_refused (pausing_refusal ports number) ports (with_paused ports number true)
after_call ports (Resume number) = unless_refused (resuming_refusal ports number) ports (with_paused ports number false)

-- the number that a call returns, before the others
abbrev pub given_before : Option Refused → ℕ → List ℕ → List ℕ
given_before None number others = number ∷ others
given_before (Some cause) number others = others

-- the numbers that `open` returns over the calls
abbrev pub numbers_given : Ports → List PortCall → List ℕ
numbers_given ports [] = []
numbers_given ports (Open pgn max_len ∷ calls) = given_before (opening_refusal ports) (next_id ports).number (numbers_given (after_call ports (Open pgn max_len)) calls)
numbers_given ports (Close number ∷ calls) = numbers_given (after_call ports (Close number)) calls
numbers_given ports (Pause number ∷ calls) = numbers_given (after_call ports (Pause number)) calls
numbers_given ports (Resume number ∷ calls) = numbers_given (after_call ports (Resume number)) calls
