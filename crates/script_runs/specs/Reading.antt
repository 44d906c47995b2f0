-- A script that is read to its end, or to its first fault. Each of its lines sets up a plan by one step. `text` is the text of
-- refused lines, and `ends` says what is wrong with a script that ends at a plan.
use Rattle.std.specs.Prelude.{◌≡◌, ℕ, ◌+◌, ◌≤◌, List, [], ◌∷◌, ◌++◌, Option, Some, None, Result, Ok, Err}
use Rattle.line_faults.specs.declared.fault.Fault.{Fault}
use Rattle.line_faults.specs.declared.fault.LineError.{LineError}
use Rattle.line_faults.specs.declared.fault.LineError.TheVariants as errors
use Rattle.text_lines.specs.Lines.{lines_of}
use Rattle.line_faults.specs.declared.ending.Cause.{Cause}
use Rattle.line_faults.specs.declared.ending.Cause.TheVariants as causes
use Rattle.line_faults.specs.declared.ending.ScriptFault.{ScriptFault}
use Rattle.line_runs.specs.Limits.{script_limits, above, unless_above}

-- the plan after a line, or what is wrong with the line; and what is wrong with a script's end
pub record Grammar (P : Type 0) : Type 0 where
  pub step : P → List ℕ → Result P Fault
  pub ends : P → Option Fault
  pub text : P → List ℕ

-- line n of a script, within the limits
abbrev pub numbered_line : {P : Type 0} → Grammar P → P → ℕ → List ℕ → Result P Fault
numbered_line g p n text = unless_above (above script_limits n text) (g.step p text)

-- what is set up, and the fault with its line, if there is one
pub record Planned (P : Type 0) : Type 0 where
  pub plan : P
  pub fault : Option (ℕ × Fault)

abbrev pub then_rest : {P : Type 0} → P → ℕ → Result P Fault → (P → Planned P) → Planned P
then_rest p n (Ok q) rest = rest q
then_rest p n (Err f) rest = record { plan = p; fault = Some (n, f) }

abbrev pub fault_at : ℕ → Option Fault → Option (ℕ × Fault)
fault_at n None = None
fault_at n (Some f) = Some (n, f)

-- the plan of the lines up to the first fault
unfoldable pub planned_from : {P : Type 0} → Grammar P → P → ℕ → List (List ℕ) → Planned P
planned_from g p n [] = record { plan = p; fault = fault_at n (g.ends p) }
planned_from g p n (text ∷ texts) = then_rest p n (numbered_line g p n text) (λ q. planned_from g q (n + 1) texts)

abbrev pub planned_by : {P : Type 0} → Grammar P → P → List ℕ → Planned P
planned_by g p script = planned_from g p 1 (lines_of script)

-- What holds of each line

-- after a line that was obeyed there is room from the next line on; and room from a line on is room from a later one on
abbrev pub RoomAfter : (P : Type 0) → Grammar P → (P → ℕ → Type 0) → Type 0
RoomAfter P g HasRoom = (p q : P) (line : List ℕ) (n : ℕ) → HasRoom p n → g.step p line ≡ Ok q → HasRoom q (n + 1)

abbrev pub RoomBefore : (P : Type 0) → (P → ℕ → Type 0) → Type 0
RoomBefore P HasRoom = (p : P) (n : ℕ) → n ≤ script_limits.lines → HasRoom p n → HasRoom p script_limits.lines

-- the second text is the first, and more
abbrev pub Begins : List ℕ → List ℕ → Type 0
Begins a b = (more : List ℕ) × (b ≡ a ++ more)

abbrev pub Grows : {P : Type 0} → (P → List ℕ) → P → Result P Fault → Type 0
Grows text p (Ok q) = Begins (text p) (text q)
Grows text p (Err f) = Unit {0}

abbrev pub EachGrows : (P : Type 0) → Grammar P → Type 0
EachGrows P g = (p : P) (line : List ℕ) → Grows g.text p (g.step p line)

-- How the code read a script

-- how a step went, from plan p to plan q: a line that isn't obeyed prints nothing
abbrev pub Done : {P : Type 0} → (P → List ℕ) → Result (Unit {0}) LineError → P → P → Result P Fault → Type 0
Done text (Ok u) p q step = step ≡ Ok q
Done text (Err (errors.Fault f)) p q step = (step ≡ Err f) × (text q ≡ text p)
Done text (Err errors.OutOfMemory) p q step = text q ≡ text p

-- what was printed of refused lines when a line ended the reading: all of it at a fault of the script, else its beginning
abbrev pub IsCut : {P : Type 0} → (P → List ℕ) → ℕ → Cause → P → Planned P → Type 0
IsCut text n (causes.Fault f) p planned = (text p ≡ text planned.plan) × (planned.fault ≡ Some (n, f))
IsCut text n causes.ReadFailed p planned = Begins (text p) (text planned.plan)
IsCut text n causes.OutOfMemory p planned = Begins (text p) (text planned.plan)
IsCut text n causes.WriteFailed p planned = ⊥

-- the script was read to its end, or to its fault
abbrev pub IsRead : {P : Type 0} → (P → List ℕ) → Result (Unit {0}) ScriptFault → P → Planned P → Type 0
IsRead text (Ok u) p planned = (p ≡ planned.plan) × (planned.fault ≡ None)
IsRead text (Err f) p planned = IsCut text f.line f.cause p planned
