-- How many lines an input may have, and how many bytes a line.
use Rattle.std.specs.Prelude.{◌≡◌, ℕ, ◌-◌, ◌^◌, List, [], ◌∷◌, length, Bool, true, false, Option, Some, None, Result, Ok, Err, nat_lt, if◌then◌else◌, IfSome}
use Rattle.text_lines.specs.Known.{Known}
use Rattle.text_lines.specs.Lines.{lines_of}
use Rattle.line_faults.specs.declared.ending.Cause.{Cause}
use Rattle.line_faults.specs.declared.ending.Cause.TheVariants as causes
use Rattle.line_faults.specs.declared.fault.Fault.{Fault}
use Rattle.line_faults.specs.declared.fault.Fault.TheVariants.{TooManyLines, LineTooLong}
use Rattle.line_runs.specs.declared.limits.Limits.{Limits}

-- the limits of a script
abbrev pub script_limits : Limits
script_limits = record { lines = 1000000; bytes = 8192 }

-- the limits of a log
abbrev pub log_limits : Limits
log_limits = record { lines = 2 ^ 64 - 2; bytes = 8192 }

-- the fault of a line n that is too long
abbrev pub limit_fault : Limits → ℕ → Fault
limit_fault m n = if nat_lt m.lines n then TooManyLines else LineTooLong

-- what is wrong with line n of an input, whatever it says
unfoldable pub above : Limits → ℕ → List ℕ → Option Fault
above m n line = if nat_lt m.lines n then Some TooManyLines else if nat_lt m.bytes (length line) then Some LineTooLong else None

-- what a line means, unless it is above the limits
abbrev pub unless_above : {A : Type 0} → Option Fault → Result A Fault → Result A Fault
unless_above None meant = meant
unless_above (Some f) meant = Err f

-- How the code read a line

-- the next line has this fault
abbrev pub IsAbove : Limits → ℕ → Fault → List ℕ → Type 0
IsAbove m n f rest = (line : List ℕ) × (lines : List (List ℕ)) × (lines_of rest ≡ line ∷ lines) × (above m n line ≡ Some f)

-- line n is the next one of what was left, or no line was left, or why no line was read
abbrev pub Read : Limits → ℕ → Result Bool Cause → List ℕ → (old new : Option (List ℕ)) → Type 0
Read m n (Ok true) line old new = (above m n line ≡ None) × Known old new (λ rest left. lines_of rest ≡ line ∷ lines_of left)
Read m n (Ok false) line old new = Known old new (λ rest left. lines_of rest ≡ [])
Read m n (Err (causes.Fault f)) line old new = IfSome old (IsAbove m n f)
Read m n (Err causes.ReadFailed) line old new = Unit {0}
Read m n (Err causes.OutOfMemory) line old new = Unit {0}
Read m n (Err causes.WriteFailed) line old new = ⊥
