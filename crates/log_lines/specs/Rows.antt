-- The rows of a summary, in a table, or as JSON: an object a line, with its members in the order of their names.
use Rattle.std.specs.Prelude.{ℕ, List, [], ◌∷◌, ◌++◌, flat_map, codes}
use Rattle.log_lines.specs.Counts.{counts_object}
use Rattle.log_lines.specs.Objects.{Named, count_of, object_line}
use Rattle.log_lines.specs.Table.{row_with, header_line}
use Rattle.log_lines.specs.declared.rows.Form.{Form}
use Rattle.log_lines.specs.declared.rows.Form.TheVariants.{Table, Objects}
use Rattle.serde_json.specs.Data.{string}
use Rattle.log_fields.specs.Iface.{name_of}
use Rattle.log_courses.specs.Rows.{Summary, rows_of, aborts_of, losses_of, frames_on, mean_of, share_of}
use Rattle.log_courses.specs.declared.row.ReasonCount.{ReasonCount}
use Rattle.log_courses.specs.declared.row.Row.{Row}

abbrev pub last_members : Row → List ReasonCount → (all : ℕ) → List Named
last_members r lost all =
    (codes "longest", count_of r.longest)
    ∷ (codes "losses", counts_object lost)
    ∷ (codes "mean", count_of (mean_of r))
    ∷ (codes "pgn", count_of r.pgn)
    ∷ (codes "share", count_of (share_of r.frames all))
    ∷ (codes "to", count_of r.to.0) ∷ []

abbrev pub later_members : Row → List ReasonCount → (all : ℕ) → List Named
later_members r lost all =
    (codes "again", count_of r.again)
    ∷ (codes "bytes", count_of r.bytes)
    ∷ (codes "frames", count_of r.frames)
    ∷ (codes "from", count_of r.from.0)
    ∷ (codes "given", count_of r.given)
    ∷ (codes "interface", string (name_of r.iface))
    ∷ (codes "kind", string (codes "summary"))
    ∷ last_members r lost all

abbrev pub row_members : Row → (aborts lost : List ReasonCount) → (all : ℕ) → List Named
row_members r aborts lost all = (codes "aborts", counts_object aborts) ∷ later_members r lost all

-- the lines of a row, or its object
abbrev pub row_printed : Form → Row → (aborts lost : List ReasonCount) → (all : ℕ) → List ℕ
row_printed Table r aborts lost all = row_with r aborts lost all
row_printed Objects r aborts lost all = object_line (row_members r aborts lost all)

unfoldable pub row_text : Form → Summary → Row → List ℕ
row_text form s r = row_printed form r (aborts_of r s) (losses_of r) (frames_on r.iface s)

unfoldable pub rows_text : Form → Summary → List ℕ
rows_text form s = flat_map (row_text form s) (rows_of s)

abbrev pub row_objects : Summary → List ℕ
row_objects s = rows_text Objects s

abbrev pub table_text : Summary → List ℕ
table_text s = header_line ++ rows_text Table s
