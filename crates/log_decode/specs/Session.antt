-- A message under way, as a listener sees it (SAE J1939-21, transport protocol; ISO 11783-3, extended transport protocol).
use Rattle.std.specs.Prelude.{ℕ, ◌+◌, ◌-◌, ◌*◌, ◌^◌, List, length, Bool, true, ◌&&◌, ◌==◌, nat_lt, nat_le, max, min, if◌then◌else◌, Option, Some, None}
use Rattle.pgn_ids.specs.Address.{global_address}
use Rattle.pgn_ids.specs.Pgn.{clean}
use Rattle.pgn_ids.specs.declared.address.Address.{Address}
use Rattle.seg_cut.specs.Join.{Join, empty_join, wants, joined, with_room, is_complete}
use Rattle.tick_timers.specs.declared.durations.TheConstants.{T1}
use Rattle.tp_wire.specs.declared.constants.TheConstants.{ETP_MAX_WINDOW}
use Rattle.tp_wire.specs.Rows.{cm_pgn}
use Rattle.tp_wire.specs.declared.wire.CmFrame.{CmFrame}
use Rattle.tp_wire.specs.declared.wire.CmFrame.TheVariants as frames
use Rattle.log_reports.specs.declared.key.Key.{Key}
use Rattle.log_reports.specs.declared.key.Transport.{Transport}
use Rattle.log_reports.specs.declared.key.Transport.TheVariants.{Tp, Etp}
use Rattle.log_decode.specs.declared.session.TheConstants.{CONNECTION_PATIENCE}
use Rattle.log_decode.specs.declared.session.Session.{Session}
use Rattle.log_decode.specs.declared.session.Fate.{Fate}
use Rattle.log_decode.specs.declared.session.Fate.TheVariants as fates
use Rattle.log_reports.specs.declared.told.Cause.TheVariants.{Missing, Acknowledged}
use Rattle.log_reports.specs.declared.told.Told.{Told}
use Rattle.log_reports.specs.declared.told.Told.TheVariants.{Given, Aborted, Lost}

-- a packet of TP has its own number, whatever the window; one of ETP counts within the window that a data packet offset opened
abbrev pub first_window : Transport → Option ℕ
first_window Tp = None
first_window Etp = Some 0

-- no packet of it has arrived
abbrev pub opened : Transport → (pgn size now : ℕ) → Session
opened transport pgn size now = record { pgn = pgn; join = empty_join size; offset = 0; window = first_window transport; heard = now }

-- an announcement of this PGN and size repeats the one that it began with
abbrev pub is_again : Session → (pgn size : ℕ) → Bool
is_again s pgn size = s.pgn == pgn && s.join.size == size && s.join.next == 1

-- with room for the next packet: if there is none, for as many as were received, and for a window at least
abbrev pub roomy : Join → Join
roomy j = if j.room == 0 then with_room j (max (j.next - 1) ETP_MAX_WINDOW) else j

-- a frame of it was seen
abbrev pub renewed : Session → (now : ℕ) → Session
renewed s now = record s { heard = now }

-- a message with its next packet
abbrev pub accepted : Session → List ℕ → (now : ℕ) → Session
accepted s bytes now = record s { join = joined (roomy s.join) bytes; heard = now }

-- packet n arrives: the next one is put behind the others, and the last one completes the message. If a later one arrives and the message
-- goes to all, all have missed the next; else its receiver may ask for those before it again. An earlier one is a repetition.
unfoldable pub packet_heard : (to : Address) → Session → (n : ℕ) → List ℕ → (now : ℕ) → Session × Fate
packet_heard to s n bytes now =
    if wants s.join n then (accepted s bytes now, if is_complete (joined (roomy s.join) bytes) then fates.Given else fates.GoesOn)
    else if nat_lt s.join.next n && to.0 == global_address then (s, fates.Lost Missing)
    else (renewed s now, fates.GoesOn)

-- a packet of this sequence number is one of the window
abbrev pub is_within : Option ℕ → (sequence : ℕ) → Bool
is_within window sequence = elim window [ None ↦ true | Some last ↦ nat_le sequence last ]

-- a packet of a sequence number behind the offset arrives: if it isn't of the window, its number in the message is unknown
abbrev pub sequence_heard : (to : Address) → Session → (sequence : ℕ) → List ℕ → (now : ℕ) → Session × Fate
sequence_heard to s sequence bytes now = if is_within s.window sequence then packet_heard to s (s.offset + sequence) bytes now else (renewed s now, fates.GoesOn)

-- its receiver acknowledges a message of this size, and not all packets of it were seen
abbrev pub acknowledged : Session → (size : ℕ) → Fate
acknowledged s size = if size == s.join.size then fates.Lost Acknowledged else fates.GoesOn

-- a connection management frame of one of its ends: in ETP a CTS closes the window, and a data packet offset opens the next one
abbrev pub cm_heard : Session → CmFrame → (now : ℕ) → Session × Fate
cm_heard s (frames.Cts granted next pgn) now = (renewed s now, fates.GoesOn)
cm_heard s (frames.EtpCts granted next pgn) now = (record s { window = Some 0; heard = now }, fates.GoesOn)
cm_heard s (frames.EtpDpo packets offset pgn) now = (record s { offset = offset; window = Some packets; heard = now }, fates.GoesOn)
cm_heard s (frames.EndOfMsgAck size packets pgn) now = (s, acknowledged s size)
cm_heard s (frames.EtpEoma size pgn) now = (s, acknowledged s size)
cm_heard s (frames.Rts size packets window pgn) now = (s, fates.GoesOn)
cm_heard s (frames.Bam size packets pgn) now = (s, fates.GoesOn)
cm_heard s (frames.Abort reason pgn) now = (s, fates.GoesOn)
cm_heard s (frames.EtpRts size pgn) now = (s, fates.GoesOn)
cm_heard s (frames.EtpAbort reason pgn) now = (s, fates.GoesOn)

-- a frame of another PGN changes nothing
abbrev pub heard : Session → CmFrame → (now : ℕ) → Session × Fate
heard s frame now = if clean (cm_pgn frame) == clean s.pgn then cm_heard s frame now else (s, fates.GoesOn)

-- an end aborts a message of a PGN: this message, if that is its PGN
abbrev pub abort_heard : Session → (who : Address) → (reason pgn : ℕ) → Fate
abort_heard s who reason pgn = if clean pgn == clean s.pgn then fates.Aborted reason who else fates.GoesOn

-- how long, in microseconds, a frame of it is waited for: T1 for a broadcast, whose receivers say nothing; else longer than T2 and T3
-- (SAE J1939-21), so that the abort of an end that waited in vain is seen before
abbrev pub patience : (to : Address) → ℕ
patience to = if to.0 == global_address then T1 * 1000 else CONNECTION_PATIENCE

-- no frame of it was seen for so long
abbrev pub is_silent : (to : Address) → Session → (now : ℕ) → Bool
is_silent to s now = nat_le (patience to) (now - s.heard)

-- from when on it is silent, if no frame of it is seen: at the last time at the latest
abbrev pub due : (to : Address) → Session → ℕ
due to s = min (s.heard + patience to) (2 ^ 64 - 1)

-- from when on a message can be silent whose last frame is seen now: the ends of a broadcast wait least
abbrev pub soonest : (now : ℕ) → ℕ
soonest now = min (now + T1 * 1000) (2 ^ 64 - 1)

-- all of it was received
abbrev pub given_of : Key → (pgn : ℕ) → Join → Option Told
given_of key pgn join = if is_complete join then Some (Given key pgn join.bytes) else None

-- the report on its fate
abbrev pub told_of : Key → Session → Fate → Option Told
told_of key s fates.GoesOn = None
told_of key s fates.Given = given_of key (clean s.pgn) s.join
told_of key s (fates.Lost cause) = Some (Lost key (clean s.pgn) (length s.join.bytes) s.join.size cause)
told_of key s (fates.Aborted reason who) = Some (Aborted key (clean s.pgn) reason who)
