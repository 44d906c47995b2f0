-- The table of a summary: a line that names the columns, and for each row a line and what its messages were aborted and lost for.
use Rattle.std.specs.Prelude.{ℕ, ◌-◌, List, ◌++◌, length, replicate, flat_map, codes}
use Rattle.std.specs.Fmt.{decimal}
use Rattle.log_fields.specs.Iface.{name_of}
use Rattle.log_fields.specs.declared.iface.Iface.{Iface}
use Rattle.log_courses.specs.Rows.{mean_of, share_of}
use Rattle.log_courses.specs.declared.row.ReasonCount.{ReasonCount}
use Rattle.log_courses.specs.declared.row.Row.{Row}
use Rattle.log_lines.specs.Counts.{count_line}
use Rattle.log_lines.specs.Parts.{address_text, pgn_text, column}

-- a name, in a column of fifteen
abbrev pub name_text : Iface → List ℕ
name_text iface = name_of iface ++ replicate (15 - length (name_of iface)) 32

-- the columns of a row's interface, PGN and addresses
abbrev pub way_text : Row → List ℕ
way_text r = name_text r.iface ++ codes " " ++ pgn_text r.pgn ++ codes "   " ++ address_text r.from ++ codes "   " ++ address_text r.to

-- how many were given, their bytes, how long they took on average, and the longest of them
abbrev pub given_text : Row → List ℕ
given_text r = column 8 (decimal r.given) ++ column 10 (decimal r.bytes) ++ column 10 (decimal (mean_of r)) ++ column 10 (decimal r.longest)

-- the packets that were asked for again, and the share of all frames of the interface, in parts per thousand
abbrev pub rest_text : Row → (all : ℕ) → List ℕ
rest_text r all = column 6 (decimal r.again) ++ column 6 (decimal (share_of r.frames all)) ++ codes "\n"

unfoldable pub row_line : Row → (all : ℕ) → List ℕ
row_line r all = way_text r ++ given_text r ++ rest_text r all

-- the line of a row, and those of its counts
abbrev pub row_with : Row → (aborts lost : List ReasonCount) → (all : ℕ) → List ℕ
row_with r aborts lost all = row_line r all ++ (flat_map count_line aborts ++ flat_map count_line lost)

-- the names of the columns
abbrev pub header_line : List ℕ
header_line = codes "interface         pgn from   to    given      bytes       mean    longest  again  share\n"
