-- How the reading of a log ended.
use Rattle.std.specs.Prelude.{◌≡◌, ℕ, List, Option, Some, None, ⊤}
use Rattle.line_faults.specs.declared.ending.Cause.{Cause}
use Rattle.line_faults.specs.declared.ending.Cause.TheVariants as causes
use Rattle.line_faults.specs.declared.ending.ScriptFault.{ScriptFault}
use Rattle.line_runs.specs.Ending.{EndedBy}
use Rattle.bus_decode.specs.declared.counts.Counts.{Counts}
use Rattle.bus_decode.specs.declared.options.Options.{Options}
use Rattle.bus_decode.specs.Listening.{Hearing}
use Rattle.bus_decode.specs.Outcome.{Outcome, last_outcome}
use Rattle.bus_decode.specs.declared.running.Decoded.{Decoded}

-- the counts are those of the log, unless a read or a write failed or memory was refused
abbrev pub CountedByCause : Cause → Counts → Counts → Type 0
CountedByCause (causes.Fault f) counts of_log = counts ≡ of_log
CountedByCause causes.ReadFailed counts of_log = ⊤
CountedByCause causes.OutOfMemory counts of_log = ⊤
CountedByCause causes.WriteFailed counts of_log = ⊤

abbrev pub CountedBy : Option ScriptFault → Counts → Counts → Type 0
CountedBy None counts of_log = counts ≡ of_log
CountedBy (Some f) counts of_log = CountedByCause f.cause counts of_log

abbrev pub Ended : Decoded → Option (List ℕ) → Option (List ℕ) → Outcome → Type 0
Ended d a b o = EndedBy d.fault a b o.told × CountedBy d.fault d.counts o.counts

-- after the lines, which ended by a fault or not, with what was heard and counted
abbrev pub EndsRun : Option ScriptFault → Decoded → Options → Hearing → Option (List ℕ) → Option (List ℕ) → Type 0
EndsRun None d options s a b = Ended d a b (last_outcome options s)
EndsRun (Some f) d options s a b = (d ≡ record { counts = s.1; fault = Some f }) × (a ≡ b)
