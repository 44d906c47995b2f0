-- How the drawing of a log ended.
use Rattle.std.specs.Prelude.{◌≡◌, ℕ, List, Bool, true, false, not, ◌&&◌, ◌==◌, if◌then◌else◌, Option, Some, None, ⊤}
use Rattle.std.specs.Io.KnownBytes.{Appends}
use Rattle.text_lines.specs.Known.{IsFront}
use Rattle.line_faults.specs.declared.ending.Cause.{Cause}
use Rattle.line_faults.specs.declared.ending.Cause.TheVariants as causes
use Rattle.line_faults.specs.declared.ending.ScriptFault.{ScriptFault}
use Rattle.line_faults.specs.declared.fault.Fault.{Fault}
use Rattle.log_drawing.specs.Packets.{closing}
use Rattle.log_drawing.specs.Outcome.{Outcome, closed}
use Rattle.log_drawing.specs.declared.picture.Picture.{Picture}
use Rattle.log_drawing.specs.declared.running.Drawn.{Drawn}

-- whether a log ended at its end, or at a fault of a line
abbrev pub is_of_cause : Cause → Bool
is_of_cause (causes.Fault fault) = true
is_of_cause causes.ReadFailed = false
is_of_cause causes.OutOfMemory = false
is_of_cause causes.WriteFailed = false

abbrev pub is_of_log : Option ScriptFault → Bool
is_of_log None = true
is_of_log (Some f) = is_of_cause f.cause

-- the line and the fault of a cause, if it is a fault
abbrev pub fault_by : ℕ → Cause → Option (ℕ × Fault)
fault_by line (causes.Fault fault) = Some (line, fault)
fault_by line causes.ReadFailed = None
fault_by line causes.OutOfMemory = None
fault_by line causes.WriteFailed = None

abbrev pub fault_of : Option ScriptFault → Option (ℕ × Fault)
fault_of None = None
fault_of (Some f) = fault_by f.line f.cause

abbrev pub at_line : ℕ → Option Fault → Option (ℕ × Fault)
at_line n fault = elim fault [ None ↦ None | Some f ↦ Some (n, f) ]

-- the whole text was written; or a front of it, if a read or a write failed or memory was refused
abbrev pub WrittenBy : Bool → Option (List ℕ) → Option (List ℕ) → List ℕ → Type 0
WrittenBy true a b text = Appends a b text
WrittenBy false a b text = IsFront a b text

abbrev pub WrittenAs : Drawn → Option (List ℕ) → Option (List ℕ) → List ℕ → Type 0
WrittenAs d a b text = WrittenBy (is_of_log d.fault) a b text

-- the report is the outcome of the log, unless there was such a failure
abbrev pub SaysBy : Bool → Drawn → Outcome → Type 0
SaysBy true d o = (d.counts ≡ o.counts) × (fault_of d.fault ≡ o.fault)
SaysBy false d o = ⊤

abbrev pub Says : Drawn → Outcome → Type 0
Says d o = SaysBy (is_of_log d.fault) d o

-- why no line n was read: at a fault of it the packets that are open are drawn, else nothing is written
abbrev pub Stopped : Cause → Drawn → Option (List ℕ) → Option (List ℕ) → Picture → ℕ → Type 0
Stopped (causes.Fault fault) d a b s n = WrittenAs d a b (closing s.packets) × Says d (closed s (Some (n, fault)))
Stopped causes.ReadFailed d a b s n = (is_of_log d.fault ≡ false) × (a ≡ b)
Stopped causes.OutOfMemory d a b s n = (is_of_log d.fault ≡ false) × (a ≡ b)
Stopped causes.WriteFailed d a b s n = (is_of_log d.fault ≡ false) × (a ≡ b)

-- the output went from a to b, the error output from e to f
pub record Ended (d : Drawn) (a b e f : Option (List ℕ)) (o : Outcome) : Type 0 where
  pub text : WrittenAs d a b o.text
  pub errors : WrittenAs d e f o.errors
  pub told : Says d o

-- the status of a program
abbrev pub status_of : Drawn → ℕ
status_of d = elim d.fault [ None ↦ if d.counts.wrong == 0 && not (d.counts.drawn == 0) then 0 else 1 | Some f ↦ 1 ]
