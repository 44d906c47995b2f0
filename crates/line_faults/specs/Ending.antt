-- Why a script or a log ended before its end.
use Rattle.std.specs.Prelude.{ℕ, List, ◌++◌, codes}
use Rattle.std.specs.Fmt.{decimal}
use Rattle.line_faults.specs.Faults.{fault_text}
use Rattle.line_faults.specs.declared.fault.LineError.{LineError}
use Rattle.line_faults.specs.declared.fault.LineError.TheVariants as errors
use Rattle.text_lines.specs.declared.lines.ReadError.{ReadError}
use Rattle.text_lines.specs.declared.lines.ReadError.TheVariants as reads
use Rattle.line_faults.specs.declared.ending.Cause.{Cause}
use Rattle.line_faults.specs.declared.ending.Cause.TheVariants as causes
use Rattle.line_faults.specs.declared.ending.ScriptFault.{ScriptFault}

-- why a line ends a script or a log
abbrev pub cause_of : LineError → Cause
cause_of errors.OutOfMemory = causes.OutOfMemory
cause_of (errors.Fault f) = causes.Fault f

-- why no line was read
abbrev pub read_cause : ReadError → Cause
read_cause reads.Failed = causes.ReadFailed
read_cause reads.OutOfMemory = causes.OutOfMemory

-- the line that reports a fault
abbrev pub fault_line : ScriptFault → List ℕ
fault_line f = elim f.cause [
  | causes.ReadFailed ↦ codes "line " ++ decimal f.line ++ codes ": read failed"
  | causes.WriteFailed ↦ codes "write failed"
  | causes.OutOfMemory ↦ codes "line " ++ decimal f.line ++ codes ": out of memory"
  | causes.Fault fault ↦ codes "line " ++ decimal f.line ++ codes ": " ++ fault_text fault
]
