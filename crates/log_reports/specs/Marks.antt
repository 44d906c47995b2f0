-- The frames that are listed of a message.
use Rattle.std.specs.Prelude.{List, [], ◌∷◌, ◌++◌, length, Bool, nat_lt, if◌then◌else◌}
use Rattle.log_reports.specs.declared.marks.TheConstants.{MOST_MARKS}
use Rattle.log_reports.specs.declared.marks.Mark.{Mark}
use Rattle.log_reports.specs.declared.marks.Place.{Place}
use Rattle.log_reports.specs.declared.marks.Step.{Step}

-- fewer frames are listed than are at most
abbrev pub has_room : List Mark → Bool
has_room marks = nat_lt (length marks) MOST_MARKS

-- one more frame is listed, unless there are as many as are listed at most
abbrev pub with_mark : Place → Step → List Mark → List Mark
with_mark place step marks = if has_room marks then marks ++ (record { place = place; step = step }) ∷ [] else marks
