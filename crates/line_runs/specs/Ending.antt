-- How a run ended.
use Rattle.std.specs.Prelude.{◌≡◌, ◌⊎◌, ℕ, List, false, Option, Some, None, ◌==◌, if◌then◌else◌, ⊤}
use Rattle.std.specs.Io.KnownBytes.{Appends}
use Rattle.text_lines.specs.Known.{IsFront}
use Rattle.line_faults.specs.declared.ending.Cause.{Cause}
use Rattle.line_faults.specs.declared.ending.Cause.TheVariants as causes
use Rattle.line_faults.specs.declared.ending.ScriptFault.{ScriptFault}
use Rattle.line_runs.specs.Outcome.{Outcome}
use Rattle.line_runs.specs.declared.running.Ran.{Ran}

abbrev pub EndedByCause : ℕ → Cause → Option (List ℕ) → Option (List ℕ) → Outcome → Type 0
EndedByCause n (causes.Fault f) a b o = Appends a b o.text × (o.fault ≡ Some (n, f))
EndedByCause n causes.ReadFailed a b o = IsFront a b o.text
EndedByCause n causes.OutOfMemory a b o = IsFront a b o.text
EndedByCause n causes.WriteFailed a b o = IsFront a b o.text

abbrev pub EndedBy : Option ScriptFault → Option (List ℕ) → Option (List ℕ) → Outcome → Type 0
EndedBy None a b o = Appends a b o.text × (o.fault ≡ None)
EndedBy (Some f) a b o = EndedByCause f.line f.cause a b o

abbrev pub Ended : Ran → Option (List ℕ) → Option (List ℕ) → Outcome → Type 0
Ended ran a b o = ran.memory_refused ≡ false → EndedBy ran.fault a b o

-- a run that reached the end of its input left this state
abbrev pub Left : {S : Type 0} → Ran → (state left : S) → Type 0
Left ran state left = ran.memory_refused ≡ false → ran.fault ≡ None → state ≡ left

-- of a state that a fault is found in, the state afterwards has what is kept, or is that state
abbrev pub KeptByCause : {S : Type 0} → (S → S → Type 0) → Cause → (state left : S) → Type 0
KeptByCause kept (causes.Fault f) state left = (state ≡ left) ⊎ kept left state
KeptByCause kept causes.ReadFailed state left = ⊤
KeptByCause kept causes.OutOfMemory state left = ⊤
KeptByCause kept causes.WriteFailed state left = ⊤

abbrev pub KeptBy : {S : Type 0} → (S → S → Type 0) → Option ScriptFault → (state left : S) → Type 0
KeptBy kept None state left = ⊤
KeptBy kept (Some f) state left = KeptByCause kept f.cause state left

-- a run that ended at a fault of its input has what is kept of the state that the lines before it left
abbrev pub Kept : {S : Type 0} → (S → S → Type 0) → Ran → (state left : S) → Type 0
Kept kept ran state left = ran.memory_refused ≡ false → KeptBy kept ran.fault state left

-- a writer that fails at the last flush is why the run ends
abbrev pub IsLastCause : (before last : Cause) → Type 0
IsLastCause before causes.WriteFailed = ⊤
IsLastCause before causes.ReadFailed = before ≡ causes.ReadFailed
IsLastCause before causes.OutOfMemory = before ≡ causes.OutOfMemory
IsLastCause before (causes.Fault f) = before ≡ causes.Fault f

-- the status of a program
abbrev pub status_of : Option ScriptFault → (wrong : ℕ) → ℕ
status_of fault wrong = elim fault [ None ↦ if wrong == 0 then 0 else 1 | Some f ↦ 1 ]
