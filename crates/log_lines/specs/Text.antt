-- The printed text of a log, as lines.
use Rattle.std.specs.Prelude.{ℕ, List, ◌++◌, length, codes}
use Rattle.std.specs.Fmt.{decimal}
use Rattle.bus_frame.specs.Frames.{CanFrame}
use Rattle.pgn_ids.specs.Identifier.{meaning_of}
use Rattle.pgn_ids.specs.declared.address.Address.{Address}
use Rattle.text_digits.specs.Digits.{unspaced}
use Rattle.log_fields.specs.Iface.{name_of}
use Rattle.log_fields.specs.Time.{time_text}
use Rattle.log_fields.specs.declared.iface.Iface.{Iface}
use Rattle.log_reports.specs.declared.key.Key.{Key}
use Rattle.log_reports.specs.declared.told.Cause.{Cause}
use Rattle.log_reports.specs.Causes.{cause_words}
use Rattle.log_reports.specs.declared.told.Told.{Told}
use Rattle.log_reports.specs.declared.told.Told.TheVariants.{Given, Aborted, Lost}
use Rattle.log_lines.specs.Parts.{address_text, pgn_text}

-- the time, the interface, and what was seen there
abbrev pub place_text : ℕ → Iface → List ℕ → List ℕ
place_text now iface what = time_text now ++ codes " " ++ name_of iface ++ what

-- the words for the addresses between which a message goes, and for its PGN
abbrev pub way_text : (from to : Address) → ℕ → List ℕ
way_text from to pgn = address_text from ++ codes " " ++ address_text to ++ codes " " ++ pgn_text pgn ++ codes " "

-- how many bytes, and the bytes
abbrev pub message_text : List ℕ → List ℕ
message_text bytes = decimal (length bytes) ++ codes " " ++ unspaced bytes ++ codes "\n"

-- the reason of an abort, and whose it is
abbrev pub abort_text : ℕ → Address → List ℕ
abort_text reason who = decimal reason ++ codes " " ++ address_text who ++ codes "\n"

-- how many bytes were received, of how many, and why the others weren't
abbrev pub loss_text : (have size : ℕ) → Cause → List ℕ
loss_text have size cause = decimal have ++ codes " " ++ decimal size ++ codes " " ++ cause_words cause ++ codes "\n"

-- where and when a message was reported, how it ended, between which addresses it went, and its PGN
abbrev pub head_text : ℕ → Key → (what : List ℕ) → (pgn : ℕ) → List ℕ
head_text now key what pgn = place_text now key.iface what ++ way_text key.from key.to pgn

-- all of it was received
abbrev pub given_line : ℕ → Key → (pgn : ℕ) → List ℕ → List ℕ
given_line now key pgn bytes = head_text now key (codes " given ") pgn ++ message_text bytes

-- one of the message's ends aborted it, for a reason
abbrev pub aborted_line : ℕ → Key → (pgn reason : ℕ) → Address → List ℕ
aborted_line now key pgn reason who = head_text now key (codes " aborted ") pgn ++ abort_text reason who

-- it is lost: so many of its bytes were received
abbrev pub lost_line : ℕ → Key → (pgn have size : ℕ) → Cause → List ℕ
lost_line now key pgn have size cause = head_text now key (codes " lost ") pgn ++ loss_text have size cause

-- the line of a report at a time
unfoldable pub told_line : ℕ → Told → List ℕ
told_line now (Given key pgn bytes) = given_line now key pgn bytes
told_line now (Aborted key pgn reason who) = aborted_line now key pgn reason who
told_line now (Lost key pgn have size cause) = lost_line now key pgn have size cause

-- a wrong line, by its number
unfoldable pub wrong_line : ℕ → List ℕ
wrong_line n = codes "line " ++ decimal n ++ codes ": not a log line\n"

-- a frame that carries nothing of a message
unfoldable pub single_line : ℕ → Iface → CanFrame → List ℕ
single_line now iface frame =
    let m = meaning_of frame.id in
    place_text now iface (codes " frame ") ++ way_text m.from m.to m.pgn ++ message_text frame.bytes
