-- The message that a connection carries, and its sender's frames (SAE J1939-21, connection mode data transfer; ISO 11783-3).
use Rattle.std.specs.Prelude.{ℕ, Bool, ◌&&◌, ◌==◌}
use Rattle.bus_frame.specs.Frames.{CanFrame}
use Rattle.pgn_ids.specs.Pgn.{clean}
use Rattle.tp_wire.specs.Reason.{reason_byte}
use Rattle.tp_wire.specs.Aborts.{connection_abort}
use Rattle.tp_wire.specs.Kinds.{is_same_kind}
use Rattle.tp_wire.specs.Rows.{written}
use Rattle.tp_wire.specs.declared.constants.TheConstants.{ANY_WINDOW}
use Rattle.tp_wire.specs.declared.reason.AbortReason.{AbortReason}
use Rattle.tp_wire.specs.declared.wire.Kind.{Kind}
use Rattle.tp_wire.specs.declared.wire.Kind.TheVariants.{Tp, Etp}
use Rattle.tp_wire.specs.declared.wire.CmFrame.{CmFrame}
use Rattle.tp_wire.specs.declared.wire.CmFrame.TheVariants.{Rts, EtpRts}
use Rattle.tp_wire.specs.declared.wire.Wire.{Wire}
use Rattle.tp_wire.specs.declared.wire.Wire.TheVariants.{Cm}
use Rattle.seg_cut.specs.Packets.{packet_count}

-- the transport, the addresses of sender and destination, the PGN, and the length of the message in bytes
pub record Link : Type 0 where
  pub kind : Kind
  pub from : ℕ
  pub to : ℕ
  pub pgn : ℕ
  pub len : ℕ

-- how many packets the message has
abbrev pub packets_of : Link → ℕ
packets_of link = packet_count link.len

-- a frame of this transport with this PGN field belongs to the message: in PDU1 the field's low byte isn't looked at
abbrev pub is_of_link : Link → Kind → ℕ → Bool
is_of_link link kind field = is_same_kind link.kind kind && clean field == link.pgn

-- a frame from the sender to the destination
abbrev pub frame_of : Link → Wire → CanFrame
frame_of link wire = written wire link.from link.to

-- the request to send; this sender allows any number of packets per CTS
abbrev pub request_to_send : Kind → (len pgn : ℕ) → CmFrame
request_to_send Tp len pgn = Rts len (packet_count len) ANY_WINDOW pgn
request_to_send Etp len pgn = EtpRts len pgn

-- the frame of the RTS
abbrev pub rts_frame : Link → CanFrame
rts_frame link = frame_of link (Cm (request_to_send link.kind link.len link.pgn))

-- the connection abort
abbrev pub abort_frame : Link → AbortReason → CanFrame
abort_frame link reason = frame_of link (Cm (connection_abort link.kind (reason_byte reason) link.pgn))
