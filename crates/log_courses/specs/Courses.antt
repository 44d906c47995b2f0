-- The courses of the messages under way, beside the reports of a listener (SAE J1939-21, transport protocol; ISO 11783-3, extended
-- transport protocol).
use Rattle.std.specs.Prelude.{ℕ, List, [], ◌∷◌, Bool, true, false, ◌||◌, ◌==◌, if◌then◌else◌, Option, Some, None}
use Rattle.std.specs.Map.{lookup, remove_entry}
use Rattle.indexmap.specs.IndexMap.{insert_entry}
use Rattle.bus_frame.specs.Frames.{CanFrame}
use Rattle.log_fields.specs.declared.iface.Iface.{Iface}
use Rattle.pgn_ids.specs.Pgn.{clean}
use Rattle.pgn_ids.specs.declared.address.Address.{Address}
use Rattle.tp_wire.specs.Reading.{reading}
use Rattle.tp_wire.specs.declared.wire.Kind.{Kind}
use Rattle.tp_wire.specs.declared.wire.Kind.TheVariants.{Tp, Etp}
use Rattle.tp_wire.specs.declared.wire.CmFrame.{CmFrame}
use Rattle.tp_wire.specs.declared.wire.CmFrame.TheVariants.{Rts, Cts, EndOfMsgAck, Bam, Abort, EtpRts, EtpCts, EtpDpo, EtpEoma, EtpAbort}
use Rattle.tp_wire.specs.declared.wire.Wire.{Wire}
use Rattle.tp_wire.specs.declared.wire.Wire.TheVariants.{Cm, Packet, Request, Ack}
use Rattle.log_reports.specs.Keys.{same_key, transport_of}
use Rattle.log_reports.specs.declared.key.Key.{Key}
use Rattle.log_reports.specs.declared.told.Cause.{Cause}
use Rattle.log_reports.specs.declared.told.Cause.TheVariants.{Missing, Replaced, TimedOut, WentBack, Acknowledged, Unsound, TooLong, EndOfLog}
use Rattle.log_reports.specs.declared.told.Told.{Told}
use Rattle.log_reports.specs.declared.told.Told.TheVariants.{Given, Aborted, Lost}
use Rattle.log_reports.specs.Told.{key_told, pgn_told}
use Rattle.log_courses.specs.Course.{begun, longer, noted, ended, cm_followed}
use Rattle.log_courses.specs.declared.course.Course.{Course}
use Rattle.log_reports.specs.declared.marks.Place.{Place}
use Rattle.log_reports.specs.declared.marks.Detail.{Detail}
use Rattle.log_reports.specs.declared.marks.Step.TheVariants.{Announcement}

-- the course of each message under way, by its key
abbrev pub Courses : Type 0
Courses = List (Key × Course)

abbrev pub course_at : Key → Courses → Option Course
course_at key courses = lookup (same_key key) courses

abbrev pub put : Key → Course → Courses → Courses
put key c courses = insert_entry same_key courses key c

-- the course at a key, if there is one, is changed by f
abbrev pub changed_at : (Course → Course) → Key → Courses → Courses
changed_at f key courses = elim (course_at key courses) [ None ↦ courses | Some c ↦ put key (f c) courses ]

-- A report ends a course

-- the frame at which a message is lost for this cause is one of its own; else the message is lost since none of them follows
abbrev pub is_by_frame : Cause → Bool
is_by_frame Missing = true
is_by_frame Replaced = false
is_by_frame TimedOut = false
is_by_frame WentBack = false
is_by_frame Acknowledged = true
is_by_frame Unsound = true
is_by_frame TooLong = true
is_by_frame EndOfLog = false

-- the frame at which this is reported is one of the message
abbrev pub ends_by_frame : Told → Bool
ends_by_frame (Given key pgn bytes) = true
ends_by_frame (Aborted key pgn reason who) = true
ends_by_frame (Lost key pgn have size cause) = is_by_frame cause

-- the course of a report: that of the message of this PGN under way
abbrev pub course_told : Told → Courses → Option Course
course_told told courses = elim (course_at (key_told told) courses) [ None ↦ None | Some c ↦ if c.pgn == pgn_told told then Some c else None ]

abbrev pub is_refusal : Cause → Bool
is_refusal Missing = false
is_refusal Replaced = false
is_refusal TimedOut = false
is_refusal WentBack = false
is_refusal Acknowledged = false
is_refusal Unsound = true
is_refusal TooLong = true
is_refusal EndOfLog = false

-- the message that a frame announces doesn't begin
abbrev pub refuses : Told → Bool
refuses (Given key pgn bytes) = false
refuses (Aborted key pgn reason who) = false
refuses (Lost key pgn have size cause) = is_refusal cause

-- a message that didn't begin, and an abort of none, have this frame alone: the announcement, or the end
abbrev pub alone : Detail → Place → Told → Course
alone detail place told =
    if refuses told then noted detail place Announcement (begun (pgn_told told) place)
    else if ends_by_frame told then ended detail place (begun (pgn_told told) place)
    else begun (pgn_told told) place

-- the course of a report at a frame, with that frame if it is one of the message
abbrev pub course_of : Detail → Place → Told → Courses → Course
course_of detail place told courses = elim (course_told told courses) [ None ↦ alone detail place told | Some c ↦ if ends_by_frame told then ended detail place (longer place c) else c ]

-- the others
abbrev pub without_told : Told → Courses → Courses
without_told told courses = elim (course_told told courses) [ None ↦ courses | Some c ↦ remove_entry (same_key (key_told told)) courses ]

-- What a frame adds to the messages that continue

abbrev pub is_refused : List Told → Bool
is_refused [] = false
is_refused (t ∷ ts) = refuses t || is_refused ts

-- the key of a message that goes from a node to another one
abbrev pub key_between : Iface → (from to : Address) → Kind → Key
key_between iface from to kind = record { iface = iface; from = from; to = to; transport = transport_of kind }

-- an announcement of a message that begins, or a repeated one
abbrev pub announced : Detail → Key → (pgn : ℕ) → Place → List Told → Courses → Courses
announced detail key pgn place told courses =
    if is_refused told then courses
    else elim (course_at key courses) [ None ↦ put key (noted detail place Announcement (begun (clean pgn) place)) courses | Some c ↦ put key (noted detail place Announcement (longer place c)) courses ]

-- the sender of a message puts RTS, BAM and DPO, its receiver CTS and the end acknowledgement. A message that an abort ends is in the
-- reports
unfoldable pub cm_frame_followed : Detail → Iface → (from to : Address) → CmFrame → Place → List Told → Courses → Courses
cm_frame_followed detail iface from to (Rts size packets window pgn) place told courses = announced detail (key_between iface from to Tp) pgn place told courses
cm_frame_followed detail iface from to (Cts granted next pgn) place told courses = changed_at (cm_followed detail (Cts granted next pgn) place) (key_between iface to from Tp) courses
cm_frame_followed detail iface from to (EndOfMsgAck size packets pgn) place told courses = changed_at (cm_followed detail (EndOfMsgAck size packets pgn) place) (key_between iface to from Tp) courses
cm_frame_followed detail iface from to (Bam size packets pgn) place told courses = announced detail (key_between iface from to Tp) pgn place told courses
cm_frame_followed detail iface from to (Abort reason pgn) place told courses = courses
cm_frame_followed detail iface from to (EtpRts size pgn) place told courses = announced detail (key_between iface from to Etp) pgn place told courses
cm_frame_followed detail iface from to (EtpCts granted next pgn) place told courses = changed_at (cm_followed detail (EtpCts granted next pgn) place) (key_between iface to from Etp) courses
cm_frame_followed detail iface from to (EtpDpo packets offset pgn) place told courses = changed_at (cm_followed detail (EtpDpo packets offset pgn) place) (key_between iface from to Etp) courses
cm_frame_followed detail iface from to (EtpEoma size pgn) place told courses = changed_at (cm_followed detail (EtpEoma size pgn) place) (key_between iface to from Etp) courses
cm_frame_followed detail iface from to (EtpAbort reason pgn) place told courses = courses

unfoldable pub wire_followed : Detail → Iface → (from to : Address) → Wire → Place → List Told → Courses → Courses
wire_followed detail iface from to (Cm frame) place told courses = cm_frame_followed detail iface from to frame place told courses
wire_followed detail iface from to (Packet kind sequence bytes) place told courses = changed_at (longer place) (key_between iface from to kind) courses
wire_followed detail iface from to (Request pgn) place told courses = courses
wire_followed detail iface from to (Ack control address pgn) place told courses = courses

-- a frame on an interface, at its place in the log, after the courses of these reports were taken out
unfoldable pub followed : Detail → Iface → CanFrame → Place → List Told → Courses → Courses
followed detail iface frame place told courses = elim (reading frame) [ None ↦ courses | Some r ↦ wire_followed detail iface r.1 r.2 r.0 place told courses ]
