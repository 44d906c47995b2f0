-- The frames of a broadcast message (SAE J1939-21, TP.CM_BAM, TP.DT).
use Rattle.std.specs.Prelude.{ℕ, List}
use Rattle.bus_frame.specs.Frames.{CanFrame}
use Rattle.pgn_ids.specs.Address.{global_address}
use Rattle.seg_cut.specs.Packets.{packet_count, packet}
use Rattle.tp_wire.specs.Rows.{written}
use Rattle.tp_wire.specs.declared.wire.Kind.TheVariants.{Tp}
use Rattle.tp_wire.specs.declared.wire.CmFrame.TheVariants.{Bam}
use Rattle.tp_wire.specs.declared.wire.Wire.TheVariants.{Cm, Packet}
use Rattle.bam_session.specs.States.{Outgoing}

-- the BAM
abbrev pub announcement : (from pgn len : ℕ) → CanFrame
announcement from pgn len = written (Cm (Bam len (packet_count len) pgn)) from global_address

-- the next packet
abbrev pub next_packet : Outgoing → (bytes : List ℕ) → CanFrame
next_packet s bytes = written (Packet Tp s.next (packet bytes s.next)) s.from global_address
