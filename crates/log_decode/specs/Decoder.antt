-- What a listener to a recorded bus makes of a frame.
use Rattle.std.specs.Prelude.{ℕ, ◌-◌, List, [], ◌∷◌, ◌++◌, Bool, ◌&&◌, ◌||◌, ◌==◌, nat_lt, max, if◌then◌else◌, Some, None, flat_map}
use Rattle.bus_frame.specs.Frames.{CanFrame}
use Rattle.log_fields.specs.declared.iface.Iface.{Iface}
use Rattle.log_fields.specs.declared.time.TheConstants.{LATE}
use Rattle.pgn_ids.specs.Pgn.{clean}
use Rattle.seg_cut.specs.Packets.{packet_count}
use Rattle.tp_wire.specs.Reading.{reading}
use Rattle.tp_wire.specs.Sizes.{is_size_of}
use Rattle.tp_wire.specs.declared.wire.Kind.{Kind}
use Rattle.tp_wire.specs.declared.wire.Kind.TheVariants.{Tp, Etp}
use Rattle.tp_wire.specs.declared.wire.CmFrame.{CmFrame}
use Rattle.tp_wire.specs.declared.wire.CmFrame.TheVariants.{Rts, Cts, EndOfMsgAck, Bam, Abort, EtpRts, EtpCts, EtpDpo, EtpEoma, EtpAbort}
use Rattle.tp_wire.specs.declared.wire.Wire.{Wire}
use Rattle.tp_wire.specs.declared.wire.Wire.TheVariants.{Cm, Packet, Request, Ack}
use Rattle.log_decode.specs.Ways.{key_of, key_back}
use Rattle.log_decode.specs.Sessions.{Heard, announced, cm_taken, packet_taken, abort_taken, is_of, losses, silenced, broken_off}
use Rattle.log_decode.specs.View.{Bus, Buses, State, bus_at, put_bus}
use Rattle.log_decode.specs.declared.way.Way.{Way}
use Rattle.log_decode.specs.declared.sessions.News.{News}
use Rattle.log_decode.specs.declared.session.Fate.TheVariants.{Lost}
use Rattle.log_reports.specs.declared.told.Cause.TheVariants.{EndOfLog}
use Rattle.log_reports.specs.declared.told.Told.{Told}
use Rattle.log_reports.specs.declared.told.Told.TheVariants.{Aborted}

-- a message of the transport protocol is announced, in as many packets as its size takes
abbrev pub tp_news : (pgn size packets : ℕ) → News
tp_news pgn size packets = record { pgn = pgn; size = size; is_sound = is_size_of Tp size && packet_count size == packets }

-- a message of the extended transport protocol is announced
abbrev pub etp_news : (pgn size : ℕ) → News
etp_news pgn size = record { pgn = pgn; size = size; is_sound = is_size_of Etp size }

-- an abort ends the message of its PGN in either direction, since it doesn't say whose it is
abbrev pub both_aborted : Way → Kind → (reason pgn : ℕ) → Heard → Heard
both_aborted way kind reason pgn h = abort_taken (key_back way kind) way.from reason pgn (abort_taken (key_of way kind) way.from reason pgn h)

-- if no such message is under way, the abort is reported as that of a message from the node that sent it
abbrev pub aborted : Way → Kind → (reason pgn : ℕ) → Heard → Heard
aborted way kind reason pgn h =
    if is_of (key_of way kind) pgn h.0 || is_of (key_back way kind) pgn h.0 then both_aborted way kind reason pgn h
    else (h.0, h.1 ++ Aborted (key_of way kind) (clean pgn) reason way.from ∷ [])

-- the sender of a message puts RTS, BAM and DPO, its receiver CTS and the end acknowledgement
unfoldable pub cm_frame_taken : Way → CmFrame → (most now : ℕ) → Heard → Heard
cm_frame_taken way (Rts size packets window pgn) most now h = announced (key_of way Tp) (tp_news pgn size packets) most now h
cm_frame_taken way (Cts granted next pgn) most now h = cm_taken (key_back way Tp) (Cts granted next pgn) now h
cm_frame_taken way (EndOfMsgAck size packets pgn) most now h = cm_taken (key_back way Tp) (EndOfMsgAck size packets pgn) now h
cm_frame_taken way (Bam size packets pgn) most now h = announced (key_of way Tp) (tp_news pgn size packets) most now h
cm_frame_taken way (Abort reason pgn) most now h = aborted way Tp reason pgn h
cm_frame_taken way (EtpRts size pgn) most now h = announced (key_of way Etp) (etp_news pgn size) most now h
cm_frame_taken way (EtpCts granted next pgn) most now h = cm_taken (key_back way Etp) (EtpCts granted next pgn) now h
cm_frame_taken way (EtpDpo packets offset pgn) most now h = cm_taken (key_of way Etp) (EtpDpo packets offset pgn) now h
cm_frame_taken way (EtpEoma size pgn) most now h = cm_taken (key_back way Etp) (EtpEoma size pgn) now h
cm_frame_taken way (EtpAbort reason pgn) most now h = aborted way Etp reason pgn h

unfoldable pub wire_taken : Way → Wire → (most now : ℕ) → Heard → Heard
wire_taken way (Cm frame) most now h = cm_frame_taken way frame most now h
wire_taken way (Packet kind sequence bytes) most now h = packet_taken (key_of way kind) sequence bytes now h
wire_taken way (Request pgn) most now h = h
wire_taken way (Ack control address pgn) most now h = h

-- a frame without a meaning to a transport changes nothing
abbrev pub frame_taken : Iface → CanFrame → (most now : ℕ) → Heard → Heard
frame_taken iface frame most now h = elim (reading frame) [ None ↦ h | Some r ↦ wire_taken (record { iface = iface; from = r.1; to = r.2 }) r.0 most now h ]

-- the time of a frame is more than a second before that of the last one of its interface: the clock was set back
abbrev pub goes_back : (before time : ℕ) → Bool
goes_back before time = nat_lt LATE (before - time)

-- a time that is less before it is taken as that one
abbrev pub now_at : (before time : ℕ) → ℕ
now_at before time = if goes_back before time then time else max before time

-- time advances, and ends what has become silent; if it goes back, it ends what was under way
abbrev pub passed : (before time : ℕ) → Heard → Heard
passed before time h = if goes_back before time then broken_off h else silenced (max before time) h

-- a frame of a bus is taken after its time has passed
abbrev pub bus_taken : Bus → (most time : ℕ) → Iface → CanFrame → List Told → Bus × List Told
bus_taken b most time iface frame told =
    let h = frame_taken iface frame most (now_at b.time time) (passed b.time time (b.sessions, told)) in
    (record { time = now_at b.time time; sessions = h.0 }, h.1)

-- each interface is a bus of its own: the reports on a frame depend on the frames of its interface alone
abbrev pub taken : State → (time : ℕ) → Iface → CanFrame → List Told → State × List Told
taken d time iface frame told =
    let b = bus_taken (bus_at iface d.buses) d.most time iface frame told in
    (record { most = d.most; time = b.0.time; buses = put_bus iface b.0 d.buses }, b.1)

-- at the end of the log each message that is still under way on a bus is lost
abbrev pub ended : Buses → List Told
ended buses = flat_map (λ b. losses (Lost EndOfLog) b.1.sessions) buses
