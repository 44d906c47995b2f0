-- The text of an input, line by line, up to its fault.
use Rattle.std.specs.Prelude.{◌≡◌, ℕ, ◌+◌, List, [], ◌∷◌, ◌++◌, Bool, true, Option, Some, None, Result, Ok, Err}
use Rattle.text_lines.specs.Lines.{lines_of}
use Rattle.line_faults.specs.declared.fault.Fault.{Fault}
use Rattle.line_faults.specs.declared.fault.LineError.{LineError}
use Rattle.line_faults.specs.declared.fault.LineError.TheVariants as errors
use Rattle.line_runs.specs.Limits.{above, unless_above}
use Rattle.line_runs.specs.declared.limits.Limits.{Limits}
use Rattle.line_runs.specs.declared.running.Told.{Told}
use Rattle.line_runs.specs.declared.running.Told.TheVariants.{Answered, NoMemory}

-- what a line does: the next state and the line's text, or what is wrong with it
abbrev pub Steps : Type 0 → Type 0
Steps S = S → List ℕ → Result (S × List ℕ) Fault

-- line n of an input, within the limits
abbrev pub numbered_line : {S : Type 0} → Limits → Steps S → S → ℕ → List ℕ → Result (S × List ℕ) Fault
numbered_line m step s n line = unless_above (above m n line) (step s line)

-- a text, and the fault with its line, if there is one
pub record Outcome : Type 0 where
  pub text : List ℕ
  pub fault : Option (ℕ × Fault)

abbrev pub then_rest : {S : Type 0} → ℕ → Result (S × List ℕ) Fault → (S → Outcome) → Outcome
then_rest n (Ok done) rest = record { text = done.1 ++ (rest done.0).text; fault = (rest done.0).fault }
then_rest n (Err f) rest = record { text = []; fault = Some (n, f) }

unfoldable pub outcome_from : {S : Type 0} → Limits → Steps S → S → ℕ → List (List ℕ) → Outcome
outcome_from m step s n [] = record { text = []; fault = None }
outcome_from m step s n (line ∷ lines) = then_rest n (numbered_line m step s n line) (λ t. outcome_from m step t (n + 1) lines)

abbrev pub outcome : {S : Type 0} → Limits → Steps S → S → List ℕ → Outcome
outcome m step s input = outcome_from m step s 1 (lines_of input)

-- the state after a line; after a line with a fault there is none
abbrev pub state_after : {S : Type 0} → Result (S × List ℕ) Fault → S → (S → S) → S
state_after (Ok done) s rest = rest done.0
state_after (Err f) s rest = s

-- the state after the lines before the first fault
unfoldable pub left_from : {S : Type 0} → Limits → Steps S → S → ℕ → List (List ℕ) → S
left_from m step s n [] = s
left_from m step s n (line ∷ lines) = state_after (numbered_line m step s n line) s (λ t. left_from m step t (n + 1) lines)

abbrev pub left : {S : Type 0} → Limits → Steps S → S → List ℕ → S
left m step s input = left_from m step s 1 (lines_of input)

-- How the code obeyed a line

abbrev pub or_refused : Told → Bool → Bool
or_refused Answered earlier = earlier
or_refused NoMemory earlier = true

-- the result of a step, with the new state and the text of the line
abbrev pub Obeyed : {S : Type 0} → Result Told LineError → (new : S) → (text : List ℕ) → Result (S × List ℕ) Fault → Type 0
Obeyed (Ok Answered) new text step = step ≡ Ok (new, text)
Obeyed (Ok NoMemory) new text step = Unit {0}
Obeyed (Err (errors.Fault f)) new text step = step ≡ Err f
Obeyed (Err errors.OutOfMemory) new text step = Unit {0}
