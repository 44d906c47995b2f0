-- How many messages weren't given, by the reason.
use Rattle.std.specs.Prelude.{ℕ, List, ◌∷◌, ◌++◌, map, codes}
use Rattle.std.specs.Fmt.{decimal}
use Rattle.json.specs.Print.{quoted}
use Rattle.log_lines.specs.Objects.{Named, object_of, count_of}
use Rattle.serde_json.specs.Data.{Data}
use Rattle.log_reports.specs.Causes.{cause_words}
use Rattle.log_courses.specs.declared.row.Reason.{Reason}
use Rattle.log_courses.specs.declared.row.Reason.TheVariants.{Abort, Loss}
use Rattle.log_courses.specs.declared.row.ReasonCount.{ReasonCount}

-- the reason of an abort in decimal digits, or the words for the cause of a loss
abbrev pub reason_name : Reason → List ℕ
reason_name (Abort reason) = decimal reason
reason_name (Loss cause) = cause_words cause

-- how often, by the name of the reason
abbrev pub count_member : ReasonCount → Named
count_member c = (reason_name c.reason, count_of c.count)

abbrev pub counts_object : List ReasonCount → Data
counts_object counts = object_of (map count_member counts)

abbrev pub named_count : List ℕ → ℕ → List ℕ
named_count name n = quoted name ++ 58 ∷ decimal n

abbrev pub count_text : ReasonCount → List ℕ
count_text c = named_count (reason_name c.reason) c.count

abbrev pub reason_line : Reason → ℕ → List ℕ
reason_line (Abort reason) n = codes "  aborted " ++ decimal n ++ codes " reason " ++ decimal reason ++ codes "\n"
reason_line (Loss cause) n = codes "  lost " ++ decimal n ++ codes " " ++ cause_words cause ++ codes "\n"

-- the line of it, behind that of its row
abbrev pub count_line : ReasonCount → List ℕ
count_line c = reason_line c.reason c.count
