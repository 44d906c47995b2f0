-- The messages of a log and how they ended, by interface, PGN, sender and destination.
use Rattle.std.specs.Prelude.{ℕ, zero, suc, ◌+◌, ◌-◌, ◌*◌, ◌/◌, List, [], ◌∷◌, ◌++◌, length, take, replicate, ◌==◌, min, max, if◌then◌else◌, Option, Some, None, unwrap_or, flat_map}
use Rattle.std.specs.declared.cmp.Ordering.{Ordering}
use Rattle.std.specs.BTreeMap.{insert_entry, is_at}
use Rattle.std.specs.Map.{lookup, remove_entry, values_of}
use Rattle.log_fields.specs.Iface.{name_of}
use Rattle.log_fields.specs.declared.iface.Iface.{Iface}
use Rattle.pgn_ids.specs.declared.address.Address.{Address}
use Rattle.log_courses.specs.Course.{counted, more}
use Rattle.log_reports.specs.Told.{key_told, pgn_told}
use Rattle.log_courses.specs.declared.course.Course.{Course}
use Rattle.log_reports.specs.declared.key.Key.{Key}
use Rattle.log_reports.specs.declared.told.Cause.{Cause}
use Rattle.log_reports.specs.declared.told.Cause.TheVariants.{Missing, Replaced, TimedOut, WentBack, Acknowledged, Unsound, TooLong, EndOfLog}
use Rattle.log_reports.specs.declared.told.Told.{Told}
use Rattle.log_reports.specs.declared.told.Told.TheVariants.{Given, Aborted, Lost}
use Rattle.log_courses.specs.declared.key.Name.{Name}
use Rattle.log_courses.specs.declared.key.RowKey.{RowKey}
use Rattle.log_courses.specs.declared.key.AbortKey.{AbortKey}
use Rattle.log_courses.specs.declared.row.Losses.{Losses}
use Rattle.log_courses.specs.declared.row.Reason.{Reason}
use Rattle.log_courses.specs.declared.row.Reason.TheVariants.{Abort, Loss}
use Rattle.log_courses.specs.declared.row.ReasonCount.{ReasonCount}
use Rattle.log_courses.specs.declared.row.Row.{Row}
use Rattle.log_courses.specs.contracts.key.NameOrd.TheImpl as names
use Rattle.log_courses.specs.contracts.key.RowKeyOrd.TheImpl as rows
use Rattle.log_courses.specs.contracts.key.AbortKeyOrd.TheImpl as aborts

-- The order: interfaces by their names, then PGNs, senders and destinations

abbrev pub by_name : Name → Name → Ordering
by_name = (names.ghosts).cmp

abbrev pub by_row : RowKey → RowKey → Ordering
by_row = (rows.ghosts).cmp

abbrev pub by_reason : AbortKey → AbortKey → Ordering
by_reason = (aborts.ghosts).cmp

-- sixteen bytes of a name, with 0 behind it
abbrev pub padded : List ℕ → List ℕ
padded name = take (min (length name) 16) name ++ replicate (16 - min (length name) 16) 0

abbrev pub name_of_iface : Iface → Name
name_of_iface iface = record { bytes = padded (name_of iface) }

abbrev pub row_key : Iface → (pgn : ℕ) → (from to : Address) → RowKey
row_key iface pgn from to = record { name = name_of_iface iface; pgn = pgn; from = from; to = to }

-- A row

abbrev pub no_losses : Losses
no_losses = record { missing = 0; replaced = 0; timed_out = 0; went_back = 0; acknowledged = 0; unsound = 0; too_long = 0; end_of_log = 0 }

-- a row without a message
abbrev pub new_row : Key → (pgn : ℕ) → Row
new_row key pgn = record { iface = key.iface; pgn = pgn; from = key.from; to = key.to; given = 0; bytes = 0; time = 0; longest = 0; again = 0; frames = 0; losses = no_losses }

-- one more is lost
abbrev pub with_loss : Cause → Losses → Losses
with_loss Missing l = record l { missing = more l.missing }
with_loss Replaced l = record l { replaced = more l.replaced }
with_loss TimedOut l = record l { timed_out = more l.timed_out }
with_loss WentBack l = record l { went_back = more l.went_back }
with_loss Acknowledged l = record l { acknowledged = more l.acknowledged }
with_loss Unsound l = record l { unsound = more l.unsound }
with_loss TooLong l = record l { too_long = more l.too_long }
with_loss EndOfLog l = record l { end_of_log = more l.end_of_log }

-- how many are lost for a cause
abbrev pub lost_of : Losses → Cause → ℕ
lost_of l Missing = l.missing
lost_of l Replaced = l.replaced
lost_of l TimedOut = l.timed_out
lost_of l WentBack = l.went_back
lost_of l Acknowledged = l.acknowledged
lost_of l Unsound = l.unsound
lost_of l TooLong = l.too_long
lost_of l EndOfLog = l.end_of_log

-- the count of a reason, if it isn't 0
abbrev pub counted_for : Reason → ℕ → List ReasonCount
counted_for reason n = if n == 0 then [] else (record { reason = reason; count = n }) ∷ []

-- the count of a cause, if messages are lost for it
abbrev pub lost_for : Losses → Cause → List ReasonCount
lost_for l cause = counted_for (Loss cause) (lost_of l cause)

-- the causes for which messages are lost, in the order of their words
abbrev pub losses_of : Row → List ReasonCount
losses_of r = flat_map (lost_for r.losses) (Acknowledged ∷ EndOfLog ∷ Missing ∷ Replaced ∷ WentBack ∷ TimedOut ∷ TooLong ∷ Unsound ∷ [])

-- how long a message took, from its first frame to its last, in microseconds
abbrev pub span : Course → ℕ
span c = c.last.time - c.first.time

-- one more is given, of so many bytes
abbrev pub with_given : (bytes : ℕ) → Course → Row → Row
with_given bytes c r = record r { given = more r.given; bytes = counted (r.bytes + bytes); time = counted (r.time + span c); longest = max r.longest (span c) }

-- the frames of a message, and the packets that its receiver asked for again, count however it ended: its announcements, its packets as often as
-- they were sent, the CTS and data packet offsets of its PGN, and the frame at which it is reported if that is one of its own. The end
-- acknowledgement of a message that was given follows its report, and isn't among them
abbrev pub with_course : Course → Row → Row
with_course c r = record r { again = counted (r.again + c.again); frames = counted (r.frames + c.frames) }

-- a row with the end of a message
abbrev pub with_end : Course → Told → Row → Row
with_end c (Given key pgn bytes) r = with_given (length bytes) c r
with_end c (Aborted key pgn reason who) r = r
with_end c (Lost key pgn have size cause) r = record r { losses = with_loss cause r.losses }

abbrev pub with_told : Course → Told → Row → Row
with_told c t r = with_end c t (with_course c r)

-- how long a message took on average, rounded down
abbrev pub mean_of : Row → ℕ
mean_of r = if r.given == 0 then 0 else r.time / r.given

-- the part of frames in all, in parts per thousand, rounded down
abbrev pub share_of : (frames all : ℕ) → ℕ
share_of frames all = if all == 0 then 0 else counted (frames * 1000) / all

-- The rows of a log

-- the rows in their order; how often each reason aborted a message of a row; the frames that were seen on each interface
pub record Summary : Type 0 where
  pub rows : List (RowKey × Row)
  pub aborts : List (AbortKey × ℕ)
  pub frames : List (Name × ℕ)

abbrev pub no_summary : Summary
no_summary = record { rows = []; aborts = []; frames = [] }

-- the row of a key, if there is one
abbrev pub row_at : RowKey → List (RowKey × Row) → Option Row
row_at key rows = lookup (is_at (by_row key)) rows

-- the row of a key becomes what it was before, or goes
abbrev pub put_back : RowKey → Option Row → List (RowKey × Row) → List (RowKey × Row)
put_back key None rows = remove_entry (is_at (by_row key)) rows
put_back key (Some row) rows = insert_entry by_row rows key row

abbrev pub row_told : RowKey → Course → Told → List (RowKey × Row) → List (RowKey × Row)
row_told key c t rows = insert_entry by_row rows key (with_told c t (unwrap_or (row_at key rows) (new_row (key_told t) (pgn_told t))))

-- how often messages of a row were aborted for a reason
abbrev pub aborted : RowKey → (reason : ℕ) → List (AbortKey × ℕ) → ℕ
aborted row reason aborts = unwrap_or (lookup (is_at (by_reason (record { row = row; reason = reason }))) aborts) 0

abbrev pub aborts_told : RowKey → Told → List (AbortKey × ℕ) → List (AbortKey × ℕ)
aborts_told row (Given key pgn bytes) aborts = aborts
aborts_told row (Aborted key pgn reason who) aborts = insert_entry by_reason aborts (record { row = row; reason = reason }) (more (aborted row reason aborts))
aborts_told row (Lost key pgn have size cause) aborts = aborts

-- a message is reported, with its course
abbrev pub with_message : Course → Told → Summary → Summary
with_message c t s =
    let key = row_key (key_told t).iface (pgn_told t) (key_told t).from (key_told t).to in
    record s { rows = row_told key c t s.rows; aborts = aborts_told key t s.aborts }

-- how many frames were seen on an interface, of messages or of none
abbrev pub frames_named : Name → List (Name × ℕ) → ℕ
frames_named name frames = unwrap_or (lookup (is_at (by_name name)) frames) 0

abbrev pub frames_on : Iface → Summary → ℕ
frames_on iface s = frames_named (name_of_iface iface) s.frames

-- one more
abbrev pub with_frame : Iface → Summary → Summary
with_frame iface s = record s { frames = insert_entry by_name s.frames (name_of_iface iface) (more (frames_on iface s)) }

abbrev pub rows_of : Summary → List Row
rows_of s = values_of s.rows

-- the count of a reason, if messages of the row were aborted for it
abbrev pub aborts_for : RowKey → List (AbortKey × ℕ) → (reason : ℕ) → List ReasonCount
aborts_for row aborts reason = counted_for (Abort reason) (aborted row reason aborts)

-- the counts of the reasons below a number, in their order
unfoldable pub aborts_below : RowKey → List (AbortKey × ℕ) → ℕ → List ReasonCount
aborts_below row aborts zero = []
aborts_below row aborts (suc n) = aborts_below row aborts n ++ aborts_for row aborts n

-- the counts of all reasons of a row
abbrev pub aborts_of : Row → Summary → List ReasonCount
aborts_of r s = aborts_below (row_key r.iface r.pgn r.from r.to) s.aborts 256
