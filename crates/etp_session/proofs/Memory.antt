-- A step of a receiver of ETP leaves the least room.
use Rattle.std.proofs.Common.{◌≡◌, ℕ, Bool, List, sym, subst, rules}
use Rattle.tick_timers.specs.Timers.{Timer}
use Rattle.tp_wire.specs.declared.wire.Kind.{Kind}
use Rattle.tp_wire.specs.declared.wire.Kind.TheVariants.{Tp, Etp}
use Rattle.tp_wire.specs.declared.wire.CmFrame.{CmFrame}
use Rattle.tp_wire.specs.declared.wire.Wire.{Wire}
use Rattle.tp_wire.specs.declared.wire.Wire.TheVariants.{Cm, Packet, Request, Ack}
use Rattle.seg_cut.specs.Join.{Join}
use Rattle.responder.specs.Peer.{Peer}
use Rattle.responder.specs.Unfinished.{Unfinished}
use Rattle.responder.specs.Steps.{stepped}
use Rattle.responder.specs.Room.{prepared}
use Rattle.responder.specs.declared.flow.Flow.{Flow}
use Rattle.responder.specs.declared.flow.Flow.TheVariants.{Open, Held}
use Rattle.responder.specs.declared.in_state.InState.{InState}
use Rattle.responder.specs.declared.in_state.InState.TheVariants.{AwaitPacket, Holding}
use Rattle.etp_session.specs.Memory.{HasLeastRoom, GoesOnWithLeastRoom}

module _ (peer : Peer) (join : Join) (most offset : ℕ) (room : Bool) (now : ℕ) where
  abbrev message : Kind → Unfinished
  message kind = record { kind = kind; peer = peer; join = join; most = most; offset = offset }

  abbrev Goal : Wire → Flow → InState → Type 0
  Goal wire flow s = HasLeastRoom s → GoesOnWithLeastRoom (stepped (prepared s wire room flow) wire room flow now)

  module _ (granted until : ℕ) (timer : Timer) where
    abbrev waiting : Kind → InState
    waiting kind = AwaitPacket (record { message = message kind; granted = granted; until = until; timer = timer })

    cm_open : (frame : CmFrame) → Goal (Cm frame) Open (waiting Etp)
    cm_open frame = search rules

    cm_held : (frame : CmFrame) → Goal (Cm frame) Held (waiting Etp)
    cm_held frame = search rules

    packet_open : (kind : Kind) (k : ℕ) (bytes : List ℕ) → Goal (Packet kind k bytes) Open (waiting Etp)
    packet_open Tp k bytes h = h
    packet_open Etp k bytes h = at_packet h
      where
        at_packet : Goal (Packet Etp k bytes) Open (waiting Etp)
        at_packet = search rules

    packet_held : (kind : Kind) (k : ℕ) (bytes : List ℕ) → Goal (Packet kind k bytes) Held (waiting Etp)
    packet_held kind k bytes = search rules

    waits : (wire : Wire) (flow : Flow) → Goal wire flow (waiting Etp)
    waits (Cm frame) Open = cm_open frame
    waits (Cm frame) Held = cm_held frame
    waits (Packet kind k bytes) Open = packet_open kind k bytes
    waits (Packet kind k bytes) Held = packet_held kind k bytes
    waits (Request pgn) Open = λ h. h
    waits (Request pgn) Held = λ h. h
    waits (Ack control address pgn) Open = λ h. h
    waits (Ack control address pgn) Held = λ h. h

    pub wait_steps : (kind : Kind) → kind ≡ Etp → (wire : Wire) (flow : Flow) → Goal wire flow (waiting kind)
    wait_steps kind is wire flow = subst (λ k. Goal wire flow (waiting k)) (sym is) (waits wire flow)

  module _ (timer : Timer) where
    abbrev holding : Kind → InState
    holding kind = Holding (record { message = message kind; timer = timer })

    holds : (wire : Wire) (flow : Flow) → Goal wire flow (holding Etp)
    holds wire flow = search rules

    pub hold_steps : (kind : Kind) → kind ≡ Etp → (wire : Wire) (flow : Flow) → Goal wire flow (holding kind)
    hold_steps kind is wire flow = subst (λ k. Goal wire flow (holding k)) (sym is) (holds wire flow)
