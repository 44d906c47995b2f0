-- The receiver of ETP (ISO 11783-3): the rows of a DPO and of a packet; the first that fits holds. The number of a packet is the
-- offset of the last DPO plus its sequence number.
use Rattle.std.specs.Prelude.{ℕ, ◌≡◌, Bool, None, ⊤}
use Rattle.tp_wire.specs.declared.wire.Kind.TheVariants.{Etp}
use Rattle.tp_wire.specs.declared.wire.CmFrame.TheVariants.{EtpDpo}
use Rattle.tp_wire.specs.declared.wire.Wire.{Wire}
use Rattle.tp_wire.specs.declared.wire.Wire.TheVariants.{Cm, Packet}
use Rattle.responder.specs.Unfinished.{number_of}
use Rattle.responder.specs.Readers.{unfinished_of}
use Rattle.responder.specs.AwaitPacket.{on_dpo, on_packet}
use Rattle.responder.specs.Holding.{on_dpo_in_hold, on_packet_in_hold}
use Rattle.responder.specs.declared.flow.Flow.{Flow}
use Rattle.responder.specs.declared.in_state.InState.{InState}
use Rattle.responder.specs.declared.in_state.InState.TheVariants.{AwaitPacket, Holding}
use Rattle.responder.specs.declared.received.Received.{Received}
use Rattle.responder.specs.declared.received.Received.TheVariants.{On, Complete, Ended}

-- a receiver of ETP
abbrev pub IsEtp : InState → Type 0
IsEtp s = (unfinished_of s).kind ≡ Etp

-- a frame arrives: all but a DPO and a packet of ETP leave the state unchanged
abbrev pub etp_stepped : InState → Wire → (room : Bool) → Flow → (now : ℕ) → Received
etp_stepped (AwaitPacket s) (Cm (EtpDpo packets offset pgn)) room flow now = on_dpo s packets offset pgn
etp_stepped (AwaitPacket s) (Packet Etp sequence bytes) room flow now = on_packet s (number_of s.message sequence) bytes room flow now
etp_stepped (Holding s) (Cm (EtpDpo packets offset pgn)) room flow now = on_dpo_in_hold s packets offset pgn
etp_stepped (Holding s) (Packet Etp sequence bytes) room flow now = on_packet_in_hold s (number_of s.message sequence)
etp_stepped s _ room flow now = On s None

-- the state that follows is a receiver of ETP
abbrev pub GoesOnAsEtp : Received → Type 0
GoesOnAsEtp (On s frame) = IsEtp s
GoesOnAsEtp (Complete message) = message.kind ≡ Etp
GoesOnAsEtp (Ended frame) = ⊤
