-- The receiver of TP (SAE J1939-21, connection mode data transfer): its states, and the rows of a packet; the first that fits
-- holds.
use Rattle.std.specs.Prelude.{ℕ, ◌≡◌, ◌≤◌, Bool, ◌&&◌, not, nat_lt, if◌then◌else◌, List, None, ⊤}
use Rattle.tp_wire.specs.declared.reason.AbortReason.TheVariants.{Resources, Other}
use Rattle.tp_wire.specs.declared.wire.Kind.TheVariants.{Tp}
use Rattle.tp_wire.specs.declared.wire.Wire.{Wire}
use Rattle.tp_wire.specs.declared.wire.Wire.TheVariants.{Packet}
use Rattle.seg_cut.specs.Join.{wants_last}
use Rattle.seg_cut.specs.Packets.{packet_count}
use Rattle.responder.specs.Unfinished.{Unfinished, with_packet, finished}
use Rattle.responder.specs.States.{AwaitPacket}
use Rattle.responder.specs.Asking.{asks}
use Rattle.responder.specs.AwaitPacket.{aborted, accepted}
use Rattle.responder.specs.Holding.{on_packet_in_hold}
use Rattle.responder.specs.declared.flow.Flow.{Flow}
use Rattle.responder.specs.declared.in_state.InState.{InState}
use Rattle.responder.specs.declared.in_state.InState.TheVariants as InState
use Rattle.responder.specs.declared.received.Received.{Received}
use Rattle.responder.specs.declared.received.Received.TheVariants.{On, Complete, Ended}

-- a message of TP that lacks packets: there is no offset, and a CTS grants one packet at least
pub record IsTpMessage (m : Unfinished) : Type 0 where
  pub kind : m.kind ≡ Tp
  pub offset : m.offset ≡ 0
  pub some : 1 ≤ m.most
  pub to_come : m.join.next ≤ packet_count m.join.size

-- packets are awaited: the next one is granted, and packets are accepted up to the last one granted
pub record IsAwaiting (s : AwaitPacket) : Type 0 where
  pub message : IsTpMessage s.message
  pub until : s.until ≡ s.granted
  pub next : s.message.join.next ≤ s.granted

-- a receiver of TP
abbrev pub IsTp : InState → Type 0
IsTp (InState.AwaitPacket s) = IsAwaiting s
IsTp (InState.Holding s) = IsTpMessage s.message

-- packet `number`, while packets are awaited
abbrev pub on_packet : AwaitPacket → (number : ℕ) → (bytes : List ℕ) → (room : Bool) → Flow → (now : ℕ) → Received
on_packet s number bytes room flow now =
    if nat_lt number s.message.join.next then On (InState.AwaitPacket s) None
    else if nat_lt s.message.join.next number then aborted s.message Other
    else if not (wants_last s.message.join) && nat_lt number s.granted then On (InState.AwaitPacket (accepted s bytes now)) None
    else if not (wants_last s.message.join) && room then asks (with_packet s.message bytes) flow now
    else if not (wants_last s.message.join) then aborted s.message Resources
    else Complete (finished (with_packet s.message bytes))

-- a frame arrives: the sequence number of a packet is its number, and every other frame leaves the state unchanged
abbrev pub tp_stepped : InState → Wire → (room : Bool) → Flow → (now : ℕ) → Received
tp_stepped (InState.AwaitPacket s) (Packet Tp sequence bytes) room flow now = on_packet s sequence bytes room flow now
tp_stepped (InState.Holding s) (Packet Tp sequence bytes) room flow now = on_packet_in_hold s sequence
tp_stepped s _ room flow now = On s None

-- the state that follows is a receiver of TP
abbrev pub GoesOnAsTp : Received → Type 0
GoesOnAsTp (On s frame) = IsTp s
GoesOnAsTp (Complete message) = message.kind ≡ Tp
GoesOnAsTp (Ended frame) = ⊤
