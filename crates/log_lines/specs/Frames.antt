-- The frames of a message as a member of its JSON object: an array of an object for each.
use Rattle.std.specs.Prelude.{ℕ, List, [], ◌∷◌, map, true, codes}
use Rattle.log_lines.specs.Objects.{Named, object_of, array_of, count_of, member_text}
use Rattle.serde_json.specs.Data.{Data, string}
use Rattle.serde_json.specs.Written.{compact_text}
use Rattle.log_reports.specs.declared.marks.Place.{Place}
use Rattle.log_reports.specs.declared.marks.Detail.{Detail}
use Rattle.log_reports.specs.declared.marks.Detail.TheVariants.{Ends, Frames}
use Rattle.log_reports.specs.declared.marks.Mark.{Mark}
use Rattle.log_reports.specs.declared.marks.Step.{Step}
use Rattle.log_reports.specs.declared.marks.Step.TheVariants.{Announcement, Window, Again, Hold, End}

-- what a frame does, its number in the log and its time
abbrev pub plain_members : (kind : List ℕ) → Place → List Named
plain_members kind p = (codes "kind", string kind) ∷ (codes "number", count_of p.number) ∷ (codes "time", count_of p.time) ∷ []

-- the members of a frame with the packets from one to another
abbrev pub ranged_members : (kind : List ℕ) → Place → (first last : ℕ) → List Named
ranged_members kind p first last =
    (codes "from", count_of first)
    ∷ (codes "kind", string kind)
    ∷ (codes "number", count_of p.number)
    ∷ (codes "time", count_of p.time)
    ∷ (codes "to", count_of last) ∷ []

abbrev pub step_members : Place → Step → List Named
step_members p Announcement = plain_members (codes "announcement") p
step_members p (Window first last) = ranged_members (codes "window") p first last
step_members p (Again first last) = ranged_members (codes "again") p first last
step_members p Hold = plain_members (codes "hold") p
step_members p End = plain_members (codes "end") p

abbrev pub mark_object : Mark → Data
mark_object m = object_of (step_members m.place m.step)

abbrev pub mark_text : Mark → List ℕ
mark_text m = compact_text (mark_object m)

abbrev pub frames_array : List Mark → Data
frames_array marks = array_of (map mark_object marks)

-- with these members behind that one, if frames are listed
abbrev pub with_frames : Detail → List Mark → List Named → List Named
with_frames Ends marks rest = rest
with_frames Frames marks rest = (codes "frames", frames_array marks) ∷ rest

abbrev pub frames_text : Detail → List Mark → List ℕ
frames_text Ends marks = []
frames_text Frames marks = member_text true (codes "frames") (frames_array marks)
