-- The frames of a message, listed behind its line.
use Rattle.std.specs.Prelude.{ℕ, List, ◌++◌, flat_map, codes}
use Rattle.std.specs.Fmt.{decimal}
use Rattle.log_fields.specs.Time.{time_text}
use Rattle.log_reports.specs.declared.marks.Mark.{Mark}
use Rattle.log_reports.specs.declared.marks.Step.{Step}
use Rattle.log_reports.specs.declared.marks.Step.TheVariants.{Announcement, Window, Again, Hold, End}

-- packets from one to another
abbrev pub range_text : List ℕ → (first last : ℕ) → List ℕ
range_text what first last = what ++ decimal first ++ codes " " ++ decimal last ++ codes "\n"

-- what a frame does
abbrev pub step_text : Step → List ℕ
step_text Announcement = codes " announcement\n"
step_text (Window first last) = range_text (codes " window ") first last
step_text (Again first last) = range_text (codes " again ") first last
step_text Hold = codes " hold\n"
step_text End = codes " end\n"

-- the line of a frame: its time, and its number in the log
abbrev pub mark_line : Mark → List ℕ
mark_line m = codes "  " ++ time_text m.place.time ++ codes " " ++ decimal m.place.number ++ step_text m.step

unfoldable pub mark_lines : List Mark → List ℕ
mark_lines marks = flat_map mark_line marks
