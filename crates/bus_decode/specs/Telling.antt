-- The printed text of the reports.
use Rattle.std.specs.Prelude.{ℕ, List, [], ◌∷◌, ◌++◌, flat_map, ◌&&◌, if◌then◌else◌}
use Rattle.bus_frame.specs.Frames.{CanFrame}
use Rattle.pgn_ids.specs.Identifier.{meaning_of}
use Rattle.log_fields.specs.declared.iface.Iface.{Iface}
use Rattle.log_courses.specs.Courses.{course_of}
use Rattle.log_courses.specs.declared.course.Course.{Course}
use Rattle.log_reports.specs.declared.marks.Place.{Place}
use Rattle.log_reports.specs.declared.told.Told.{Told}
use Rattle.log_reports.specs.declared.told.Told.TheVariants.{Given, Aborted, Lost}
use Rattle.log_reports.specs.Groups.{explained}
use Rattle.log_lines.specs.Explained.{words_lines}
use Rattle.log_lines.specs.Listing.{mark_lines}
use Rattle.log_lines.specs.Text.{told_line, single_line, wrong_line}
use Rattle.log_lines.specs.Json.{told_object, single_object, wrong_object}
use Rattle.log_courses.specs.Rows.{Summary}
use Rattle.log_lines.specs.Rows.{row_objects, table_text}
use Rattle.bus_decode.specs.Followed.{after_told}
use Rattle.bus_decode.specs.Options.{is_asked_for, shows, is_single_asked, follows, detail_of}
use Rattle.bus_decode.specs.declared.followed.Followed.{Followed}
use Rattle.bus_decode.specs.declared.options.Options.{Options}

-- a message in words, if these are asked for
abbrev pub in_words : Options → (pgn : ℕ) → List ℕ → List (List ℕ)
in_words options pgn bytes = if options.explain then explained pgn bytes else []

-- a report in words: only a message that was given has some
abbrev pub words_told : Options → Told → List (List ℕ)
words_told options (Given key pgn bytes) = in_words options pgn bytes
words_told options (Aborted key pgn reason who) = []
words_told options (Lost key pgn have size cause) = []

-- the text of a report at a time, with its words, and with the frames that are listed of its course
unfoldable pub message_text : Options → (now : ℕ) → Course → Told → List ℕ
message_text options now c t =
    if options.json then told_object (detail_of options) now c (words_told options t) t
    else (told_line now t ++ words_lines (words_told options t)) ++ mark_lines c.marks

-- the text of a report, if it is shown
abbrev pub shown_text : Options → (now : ℕ) → Course → Told → List ℕ
shown_text options now c t = if shows options t then message_text options now c t else []

-- one behind the other, each with its course
abbrev pub followed_text : Place → Options → List Told → Followed → List ℕ
followed_text place options [] f = []
followed_text place options (t ∷ ts) f = shown_text options place.time (course_of (detail_of options) place t f.courses) t ++ followed_text place options ts (after_told options place t f)

-- the text of a report, if no course is followed
abbrev pub plain_line : (now : ℕ) → Options → Told → List ℕ
plain_line now options t = if shows options t then told_line now t ++ words_lines (words_told options t) else []

abbrev pub plain_text : (now : ℕ) → Options → List Told → List ℕ
plain_text now options told = flat_map (plain_line now options) told

-- the text of the reports at a frame
unfoldable pub told_text : Place → Options → List Told → Followed → List ℕ
told_text place options told f = if follows options then followed_text place options told f else plain_text place.time options told

-- the summary of a log that has ended, if it is asked for
unfoldable pub summary_text : Options → Summary → List ℕ
summary_text options s = if options.summary then (if options.json then row_objects s else table_text s) else []

-- a frame that carries nothing of a message, in words too
abbrev pub frame_text : (now : ℕ) → Iface → Options → CanFrame → List (List ℕ) → List ℕ
frame_text now iface options frame words = if options.json then single_object now iface words frame else single_line now iface frame ++ words_lines words

-- a frame that carries nothing of a message, if it is asked for
unfoldable pub single_text : (now : ℕ) → Iface → Options → CanFrame → List ℕ
single_text now iface options frame =
    let m = meaning_of frame.id in
    if is_single_asked options m.pgn && is_asked_for options m.from m.to m.pgn then frame_text now iface options frame (in_words options m.pgn frame.bytes) else []

-- a wrong line, by its number
unfoldable pub wrong_text : Options → ℕ → List ℕ
wrong_text options n = if options.json then wrong_object n else wrong_line n
