-- Why a message is lost to the listener.
use Rattle.std.specs.Prelude.{ℕ, List, codes}
use Rattle.log_reports.specs.declared.told.Cause.{Cause}
use Rattle.log_reports.specs.declared.told.Cause.TheVariants.{Missing, Replaced, TimedOut, WentBack, Acknowledged, Unsound, TooLong, EndOfLog}

-- the words of a cause
abbrev pub cause_words : Cause → List ℕ
cause_words Missing = codes "packet missing"
cause_words Replaced = codes "replaced"
cause_words TimedOut = codes "timed out"
cause_words WentBack = codes "time went back"
cause_words Acknowledged = codes "acknowledged"
cause_words Unsound = codes "wrong size"
cause_words TooLong = codes "too long"
cause_words EndOfLog = codes "end of log"
