-- How a run of a script by threads ended. Text is the text of refused lines, and CameTo relates a run of the threads to its end:
-- whether their turns ran out, and the text of what they left.
use Rattle.std.specs.Prelude.{◌≡◌, ℕ, List, ◌++◌, ◌⊎◌, Bool, false, Option, Some, None, Result, Ok, Err, if◌then◌else◌, codes}
use Rattle.std.specs.Io.KnownBytes.{Appends}
use Rattle.text_lines.specs.Known.{IsFront}
use Rattle.line_faults.specs.Ending.{fault_line}
use Rattle.line_faults.specs.declared.ending.Cause.{Cause}
use Rattle.line_faults.specs.declared.ending.Cause.TheVariants as causes
use Rattle.line_faults.specs.declared.ending.ScriptFault.{ScriptFault}
use Rattle.script_runs.specs.Reading.{Planned}
use Rattle.script_runs.specs.declared.ending.Lost.{Lost}
use Rattle.script_runs.specs.declared.ending.Lost.TheVariants as losts
use Rattle.script_runs.specs.declared.ending.LiveFault.{LiveFault}
use Rattle.script_runs.specs.declared.ending.LiveFault.TheVariants as faults
use Rattle.script_runs.specs.declared.ending.LiveRan.{LiveRan}
use Rattle.script_runs.specs.declared.ending.Told.{Told}

-- why a run of threads has no text
abbrev pub lost_fault : Lost → LiveFault
lost_fault losts.OutOfMemory = faults.Script record { line = 0; cause = causes.OutOfMemory }
lost_fault losts.NotThisSegment = faults.NotThisSegment

-- a run that ended by a fault
abbrev pub ended_by : LiveFault → LiveRan
ended_by f = record { fault = Some f; ran_out = false }

-- a run that failed at this line
abbrev pub failed_at : ℕ → Cause → LiveRan
failed_at n cause = ended_by (faults.Script record { line = n; cause = cause })

-- the text of the refused lines was written, and the run continues if the script has no fault; else it ended with that fault, or with
-- the failed write of a front of it
abbrev pub IsRefusedTold : Result (Unit {0}) ScriptFault → Option (List ℕ) → Option (List ℕ) → List ℕ → Option LiveRan → Type 0
IsRefusedTold read a b refused None = (read ≡ Ok tt) × Appends a b refused
IsRefusedTold read a b refused (Some ran) = ((ran ≡ failed_at 0 causes.WriteFailed) × IsFront a b refused) ⊎ ((f : ScriptFault) × (read ≡ Err f) × (ran ≡ failed_at f.line f.cause) × Appends a b refused)

-- the text that the threads left was written, or a front of it if a write failed; without such a text nothing was written
abbrev pub IsRunTold : Result Told Lost → Option (List ℕ) → Option (List ℕ) → LiveRan → Type 0
IsRunTold (Ok told) a b ran = ((ran ≡ record { fault = None; ran_out = told.ran_out }) × Appends a b told.text.items) ⊎ ((ran ≡ failed_at 0 causes.WriteFailed) × IsFront a b told.text.items)
IsRunTold (Err lost) a b ran = (ran ≡ ended_by (lost_fault lost)) × (b ≡ a)

-- all that a run without a fault writes
abbrev pub WholeText : {P : Type 0} → (P → List ℕ) → (P → Bool → List ℕ → Type 0) → Planned P → (ran_out : Bool) → List ℕ → Type 0
WholeText text CameTo planned ran_out whole = (planned.fault ≡ None) × ((end : List ℕ) × CameTo planned.plan ran_out end × (whole ≡ text planned.plan ++ end))

-- at a fault of the script the text of the refused lines was written, and otherwise a front of all that is to be written
abbrev pub EndedByCause : {P : Type 0} → (P → List ℕ) → (P → Bool → List ℕ → Type 0) → ℕ → Cause → Option (List ℕ) → Option (List ℕ) → Planned P → Type 0
EndedByCause text CameTo n (causes.Fault f) a b planned = Appends a b (text planned.plan) × (planned.fault ≡ Some (n, f))
EndedByCause text CameTo n causes.ReadFailed a b planned = IsFront a b (text planned.plan)
EndedByCause text CameTo n causes.OutOfMemory a b planned = IsFront a b (text planned.plan)
EndedByCause text CameTo n causes.WriteFailed a b planned = IsFront a b (text planned.plan) ⊎ ((ran_out : Bool) × (whole : List ℕ) × WholeText text CameTo planned ran_out whole × IsFront a b whole)

-- if the threads left another segment, only the text of the refused lines was written
abbrev pub EndedByFault : {P : Type 0} → (P → List ℕ) → (P → Bool → List ℕ → Type 0) → LiveFault → Option (List ℕ) → Option (List ℕ) → Planned P → Type 0
EndedByFault text CameTo (faults.Script f) a b planned = EndedByCause text CameTo f.line f.cause a b planned
EndedByFault text CameTo faults.NotThisSegment a b planned = Appends a b (text planned.plan) × (planned.fault ≡ None)

-- the text of the refused lines was written, and then, if the script has no fault, the text that the threads left; at a fault of the
-- script only the former
abbrev pub EndedBy : {P : Type 0} → (P → List ℕ) → (P → Bool → List ℕ → Type 0) → LiveRan → Option (List ℕ) → Option (List ℕ) → Planned P → Type 0
EndedBy text CameTo ran a b planned = elim ran.fault [
  | None ↦ (whole : List ℕ) × WholeText text CameTo planned ran.ran_out whole × Appends a b whole
  | Some f ↦ EndedByFault text CameTo f a b planned
]

-- the status of a program
abbrev pub status_of : LiveRan → ℕ
status_of ran = elim ran.fault [ None ↦ if ran.ran_out then 3 else 0 | Some f ↦ 1 ]

-- the line that reports a fault
abbrev pub live_fault_line : LiveFault → List ℕ
live_fault_line (faults.Script f) = fault_line f
live_fault_line faults.NotThisSegment = codes "refused 30 NotThisSegment"
