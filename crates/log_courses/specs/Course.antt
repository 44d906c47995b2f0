-- The course of a message (SAE J1939-21, transport protocol; ISO 11783-3, extended transport protocol).
use Rattle.std.specs.Prelude.{ℕ, ◌+◌, ◌-◌, ◌^◌, [], ◌∷◌, ◌++◌, ◌==◌, min, max, if◌then◌else◌}
use Rattle.pgn_ids.specs.Pgn.{clean}
use Rattle.tp_wire.specs.Rows.{cm_pgn}
use Rattle.tp_wire.specs.declared.wire.CmFrame.{CmFrame}
use Rattle.tp_wire.specs.declared.wire.CmFrame.TheVariants.{Rts, Cts, EndOfMsgAck, Bam, Abort, EtpRts, EtpCts, EtpDpo, EtpEoma, EtpAbort}
use Rattle.log_reports.specs.Marks.{with_mark}
use Rattle.log_courses.specs.declared.course.Course.{Course}
use Rattle.log_reports.specs.declared.marks.Place.{Place}
use Rattle.log_reports.specs.declared.marks.Detail.{Detail}
use Rattle.log_reports.specs.declared.marks.Detail.TheVariants.{Ends, Frames}
use Rattle.log_reports.specs.declared.marks.Step.{Step}
use Rattle.log_reports.specs.declared.marks.Step.TheVariants.{Window, Again, Hold, End}

-- a count, within 64 bits
abbrev pub counted : ℕ → ℕ
counted n = min n (2 ^ 64 - 1)

abbrev pub more : ℕ → ℕ
more n = counted (n + 1)

-- a message has its first frame, and nothing was asked for
abbrev pub begun : (pgn : ℕ) → Place → Course
begun pgn place = record { pgn = pgn; first = place; last = place; frames = 1; asked = 0; again = 0; marks = [] }

-- one more frame of it is seen
abbrev pub longer : Place → Course → Course
longer place c = record c { last = place; frames = more c.frames }

-- a CTS asks for so many packets, from the packet next on: those up to the highest one that was asked for are asked for again
abbrev pub asked_again : (asked granted next : ℕ) → ℕ
asked_again asked granted next = min (more asked - next) granted

-- the highest packet that was asked for then; a CTS for none is a hold
abbrev pub asked_to : (asked granted next : ℕ) → ℕ
asked_to asked granted next = if granted == 0 then asked else max asked (next + granted - 1)

abbrev pub with_grant : (granted next : ℕ) → Course → Course
with_grant granted next c = record c { again = counted (c.again + asked_again c.asked granted next); asked = asked_to c.asked granted next }

-- the effect of a frame is listed, if frames are listed
abbrev pub noted : Detail → Place → Step → Course → Course
noted Ends place step c = c
noted Frames place step c = record c { marks = with_mark place step c.marks }

-- the end is listed too, however many frames are
abbrev pub ended : Detail → Place → Course → Course
ended Ends place c = c
ended Frames place c = record c { marks = c.marks ++ (record { place = place; step = End }) ∷ [] }

-- it is listed that so many packets, from one on, are asked for again
abbrev pub again_noted : Detail → Place → (again next : ℕ) → Course → Course
again_noted detail place again next c = if again == 0 then c else noted detail place (Again next (next + again - 1)) c

-- a CTS opens a window, or is a hold
abbrev pub grant_noted : Detail → Place → (granted next : ℕ) → Course → Course
grant_noted detail place granted next c =
    if granted == 0 then noted detail place Hold c
    else again_noted detail place (asked_again c.asked granted next) next (noted detail place (Window next (next + granted - 1)) c)

-- a DPO opens the window that its sender fills
abbrev pub with_cm : Detail → Place → CmFrame → Course → Course
with_cm detail place (Rts size packets most pgn) c = c
with_cm detail place (Cts granted next pgn) c = with_grant granted next (grant_noted detail place granted next c)
with_cm detail place (EndOfMsgAck size packets pgn) c = c
with_cm detail place (Bam size packets pgn) c = c
with_cm detail place (Abort reason pgn) c = c
with_cm detail place (EtpRts size pgn) c = c
with_cm detail place (EtpCts granted next pgn) c = with_grant granted next (grant_noted detail place granted next c)
with_cm detail place (EtpDpo packets offset pgn) c = noted detail place (Window (offset + 1) (offset + packets)) c
with_cm detail place (EtpEoma size pgn) c = c
with_cm detail place (EtpAbort reason pgn) c = c

-- a connection management frame of one of its ends: one of another PGN isn't of this message
abbrev pub cm_followed : Detail → CmFrame → Place → Course → Course
cm_followed detail frame place c = if clean (cm_pgn frame) == c.pgn then with_cm detail place frame (longer place c) else c
