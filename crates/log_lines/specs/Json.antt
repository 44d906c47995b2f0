-- The printed text of a log as JSON: an object a line, with its members in the order of their names. Times are in microseconds.
use Rattle.std.specs.Prelude.{ℕ, List, [], ◌∷◌, length, codes}
use Rattle.bus_frame.specs.Frames.{CanFrame}
use Rattle.log_lines.specs.Objects.{Named, object_of, count_of, object_line}
use Rattle.pgn_ids.specs.Identifier.{meaning_of}
use Rattle.pgn_ids.specs.declared.address.Address.{Address}
use Rattle.serde_json.specs.Data.{Data, string}
use Rattle.text_digits.specs.Digits.{unspaced}
use Rattle.log_fields.specs.Iface.{name_of}
use Rattle.log_fields.specs.declared.iface.Iface.{Iface}
use Rattle.log_courses.specs.declared.course.Course.{Course}
use Rattle.log_reports.specs.declared.marks.Place.{Place}
use Rattle.log_reports.specs.declared.marks.Detail.{Detail}
use Rattle.log_reports.specs.declared.key.Key.{Key}
use Rattle.log_reports.specs.declared.told.Cause.{Cause}
use Rattle.log_reports.specs.Causes.{cause_words}
use Rattle.log_reports.specs.declared.told.Told.{Told}
use Rattle.log_reports.specs.declared.told.Told.TheVariants.{Given, Aborted, Lost}
use Rattle.log_lines.specs.Meanings.{with_explained}
use Rattle.log_lines.specs.Frames.{with_frames}

-- the number and the time of a frame
abbrev pub place_object : Place → Data
place_object p = object_of ((codes "number", count_of p.number) ∷ (codes "time", count_of p.time) ∷ [])

-- the place of a message of a length, and how it ended
abbrev pub measured_members : (now : ℕ) → Iface → (kind : List ℕ) → Course → (size pgn : ℕ) → (to : Address) → List Named
measured_members now iface kind c size pgn to =
    (codes "interface", string (name_of iface))
    ∷ (codes "kind", string kind)
    ∷ (codes "last", place_object c.last)
    ∷ (codes "length", count_of size)
    ∷ (codes "pgn", count_of pgn)
    ∷ (codes "time", count_of now)
    ∷ (codes "to", count_of to.0) ∷ []

-- all of it was received
unfoldable pub given_members : Detail → (now : ℕ) → Course → (explained : List (List ℕ)) → Key → (pgn : ℕ) → List ℕ → List Named
given_members detail now c explained key pgn bytes =
    (codes "again", count_of c.again)
    ∷ (codes "data", string (unspaced bytes))
    ∷ with_explained explained ((codes "first", place_object c.first)
    ∷ with_frames detail c.marks ((codes "from", count_of key.from.0)
    ∷ measured_members now key.iface (codes "given") c (length bytes) pgn key.to))

-- it is lost: so many of its bytes were received
unfoldable pub lost_members : Detail → (now : ℕ) → Course → Key → (pgn have size : ℕ) → Cause → List Named
lost_members detail now c key pgn have size cause =
    (codes "again", count_of c.again)
    ∷ (codes "cause", string (cause_words cause))
    ∷ (codes "first", place_object c.first)
    ∷ with_frames detail c.marks ((codes "from", count_of key.from.0)
    ∷ (codes "have", count_of have)
    ∷ measured_members now key.iface (codes "lost") c size pgn key.to)

abbrev pub abort_members : (now : ℕ) → Course → Key → (pgn reason : ℕ) → List Named
abort_members now c key pgn reason =
    (codes "interface", string (name_of key.iface))
    ∷ (codes "kind", string (codes "aborted"))
    ∷ (codes "last", place_object c.last)
    ∷ (codes "pgn", count_of pgn)
    ∷ (codes "reason", count_of reason)
    ∷ (codes "time", count_of now)
    ∷ (codes "to", count_of key.to.0) ∷ []

-- one of the message's ends aborted it, for a reason
unfoldable pub aborted_members : Detail → (now : ℕ) → Course → Key → (pgn reason : ℕ) → Address → List Named
aborted_members detail now c key pgn reason who =
    (codes "again", count_of c.again)
    ∷ (codes "by", count_of who.0)
    ∷ (codes "first", place_object c.first)
    ∷ with_frames detail c.marks ((codes "from", count_of key.from.0)
    ∷ abort_members now c key pgn reason)

abbrev pub frame_rest : (now : ℕ) → Iface → (from to : Address) → (pgn : ℕ) → List ℕ → List Named
frame_rest now iface from to pgn bytes =
    (codes "from", count_of from.0)
    ∷ (codes "interface", string (name_of iface))
    ∷ (codes "kind", string (codes "frame"))
    ∷ (codes "length", count_of (length bytes))
    ∷ (codes "pgn", count_of pgn)
    ∷ (codes "time", count_of now)
    ∷ (codes "to", count_of to.0) ∷ []

-- a frame that carries nothing of a message
abbrev pub frame_members : (now : ℕ) → Iface → (explained : List (List ℕ)) → (from to : Address) → (pgn : ℕ) → List ℕ → List Named
frame_members now iface explained from to pgn bytes = (codes "data", string (unspaced bytes)) ∷ with_explained explained (frame_rest now iface from to pgn bytes)

abbrev pub wrong_members : ℕ → List Named
wrong_members n = (codes "kind", string (codes "wrong line")) ∷ (codes "line", count_of n) ∷ []

-- the object of a report at a time, with its course and its meaning in words
unfoldable pub told_object : Detail → (now : ℕ) → Course → (explained : List (List ℕ)) → Told → List ℕ
told_object detail now c explained (Given key pgn bytes) = object_line (given_members detail now c explained key pgn bytes)
told_object detail now c explained (Aborted key pgn reason who) = object_line (aborted_members detail now c key pgn reason who)
told_object detail now c explained (Lost key pgn have size cause) = object_line (lost_members detail now c key pgn have size cause)

-- a frame that carries nothing of a message
unfoldable pub single_object : (now : ℕ) → Iface → (explained : List (List ℕ)) → CanFrame → List ℕ
single_object now iface explained frame =
    let m = meaning_of frame.id in
    object_line (frame_members now iface explained m.from m.to m.pgn frame.bytes)

unfoldable pub wrong_object : ℕ → List ℕ
wrong_object n = object_line (wrong_members n)
