-- Frames of a transport that belong to no message under way.
use Rattle.std.specs.Prelude.{ℕ, [], if◌then◌else◌, Option, Some, None}
use Rattle.bus_frame.specs.Frames.{CanFrame}
use Rattle.log_fields.specs.declared.iface.Iface.{Iface}
use Rattle.tp_wire.specs.Reading.{reading}
use Rattle.tp_wire.specs.declared.wire.Kind.TheVariants.{Tp, Etp}
use Rattle.tp_wire.specs.declared.wire.CmFrame.{CmFrame}
use Rattle.tp_wire.specs.declared.wire.CmFrame.TheVariants as frames
use Rattle.tp_wire.specs.declared.wire.Wire.{Wire}
use Rattle.tp_wire.specs.declared.wire.Wire.TheVariants as wires
use Rattle.log_decode.specs.Ways.{key_of, key_back}
use Rattle.log_decode.specs.Sessions.{Sessions, session_at, is_of}
use Rattle.log_decode.specs.Decoder.{passed}
use Rattle.log_decode.specs.View.{Bus, State, bus_at}
use Rattle.log_reports.specs.declared.key.Key.{Key}
use Rattle.log_decode.specs.declared.way.Way.{Way}
use Rattle.log_reports.specs.declared.stray.Stray.{Stray}
use Rattle.log_reports.specs.declared.stray.Stray.TheVariants.{Packet, Window, Acknowledgement}

-- a packet is stray if no message is under way at its key
abbrev pub packet_stray : Key → Sessions → Option Stray
packet_stray key sessions = elim (session_at key sessions) [ None ↦ Some Packet | Some s ↦ None ]

-- a connection management frame is stray if no message of its PGN is under way
abbrev pub cm_stray : Stray → Key → (pgn : ℕ) → Sessions → Option Stray
cm_stray kind key pgn sessions = if is_of key pgn sessions then None else Some kind

-- the sender of a message puts DPO, its receiver CTS and the end acknowledgement. An announcement is never stray: it opens a message, is a
-- repetition or is reported. An abort is reported
unfoldable pub cm_frame_stray : Way → CmFrame → Sessions → Option Stray
cm_frame_stray way (frames.Rts size packets window pgn) sessions = None
cm_frame_stray way (frames.Cts granted next pgn) sessions = cm_stray Window (key_back way Tp) pgn sessions
cm_frame_stray way (frames.EndOfMsgAck size packets pgn) sessions = cm_stray Acknowledgement (key_back way Tp) pgn sessions
cm_frame_stray way (frames.Bam size packets pgn) sessions = None
cm_frame_stray way (frames.Abort reason pgn) sessions = None
cm_frame_stray way (frames.EtpRts size pgn) sessions = None
cm_frame_stray way (frames.EtpCts granted next pgn) sessions = cm_stray Window (key_back way Etp) pgn sessions
cm_frame_stray way (frames.EtpDpo packets offset pgn) sessions = cm_stray Window (key_of way Etp) pgn sessions
cm_frame_stray way (frames.EtpEoma size pgn) sessions = cm_stray Acknowledgement (key_back way Etp) pgn sessions
cm_frame_stray way (frames.EtpAbort reason pgn) sessions = None

unfoldable pub wire_stray : Way → Wire → Sessions → Option Stray
wire_stray way (wires.Cm frame) sessions = cm_frame_stray way frame sessions
wire_stray way (wires.Packet kind sequence bytes) sessions = packet_stray (key_of way kind) sessions
wire_stray way (wires.Request pgn) sessions = None
wire_stray way (wires.Ack control address pgn) sessions = None

-- a frame that means nothing to a transport is no such one
abbrev pub frame_stray : Iface → CanFrame → Sessions → Option Stray
frame_stray iface frame sessions = elim (reading frame) [ None ↦ None | Some r ↦ wire_stray (record { iface = iface; from = r.1; to = r.2 }) r.0 sessions ]

-- the messages under way after time has advanced, or gone back
abbrev pub left_at : (before time : ℕ) → Sessions → Sessions
left_at before time sessions = (passed before time (sessions, [])).0

abbrev pub bus_stray : Bus → (time : ℕ) → Iface → CanFrame → Option Stray
bus_stray b time iface frame = frame_stray iface frame (left_at b.time time b.sessions)

-- what a frame is that a listener sees at a time on an interface
abbrev pub stray_seen : State → (time : ℕ) → Iface → CanFrame → Option Stray
stray_seen d time iface frame = bus_stray (bus_at iface d.buses) time iface frame
