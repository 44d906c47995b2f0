-- A step that goes on, or ends the session, is with no frame that completes its message.
use Rattle.std.proofs.Common.{◌≡◌, ℕ, ◌<◌, ◌==◌, nat_lt, Bool, true, false, not, ◌&&◌, List, Option, Some, None, refl, subst, sym, arith, ne_eqb, ltb-true, []}
use Rattle.std.specs.Prelude.{⊤}
use Rattle.std.proofs.lemmas.Bool.{and_left, and_right, cond_both}
use Rattle.bus_frame.specs.Frames.{CanFrame}
use Rattle.tp_wire.specs.Kinds.{is_same_kind}
use Rattle.tp_wire.specs.declared.wire.Kind.TheVariants.{Tp, Etp}
use Rattle.tp_wire.specs.declared.wire.Wire.{Wire}
use Rattle.tp_wire.specs.declared.wire.Wire.TheVariants.{Cm, Packet, Request, Ack}
use Rattle.seg_cut.specs.Join.{joined, wants_last}
use Rattle.responder.specs.Readers.{unfinished_of}
use Rattle.responder.specs.Receiver.{prepared_step, GoesOn}
use Rattle.responder.specs.Room.{grants_next, needed, with_room_for}
use Rattle.responder.specs.Steps as steps
use Rattle.responder.specs.declared.flow.Flow.{Flow}
use Rattle.responder.specs.declared.in_state.InState.{InState}
use Rattle.responder.specs.declared.in_state.InState.TheVariants.{AwaitPacket, Holding}
use Rattle.responder.specs.declared.received.Received.{Received}
use Rattle.responder.specs.declared.received.Received.TheVariants.{On, Complete, Ended}
use Rattle.responder.specs.declared.receiver.Left.{Left}
use Rattle.responder.specs.declared.receiver.Left.TheVariants.{Nothing, Message, Abort, NoMemory}
use Rattle.responder.proofs.Rows.{by_rows}
use Rattle.bam_session.specs.States as bam
use Rattle.bam_session.specs.Receiving as bam-steps
use Rattle.session_table.specs.declared.key.Key.{Key}
use Rattle.session_table.specs.declared.incoming.Incoming.{Incoming}
use Rattle.session_table.specs.declared.incoming.Incoming.TheVariants.{Broadcast, Connection}
use Rattle.session_table.specs.Leading.{by_frame, LeadsAt}
use Rattle.station_sessions.specs.Receiving.{Inbound}
use Rattle.station_sessions.specs.Ends.{completes_by}

-- Connections

abbrev IsPart : Received → Type 0
IsPart (On s frame) = ⊤
IsPart (Complete m) = ⊥
IsPart (Ended frame) = ⊤

stepped_part : (s : InState) (wire : Wire) (room : Bool) (flow : Flow) (now : ℕ) → IsPart (steps.stepped s wire room flow now) → steps.completes s wire ≡ false
stepped_part s wire room flow now =
    by_rows (λ r. IsPart r → steps.completes s wire ≡ false) flow now s wire room (record {
      same = λ fails _. fails;
      aborts = λ fails reason _. fails;
      announces = λ granted until packets offset pgn timer _ fails _. fails;
      announces_held = λ packets offset pgn timer _ fails _. fails;
      accepts = λ bytes granted until timer _ fails _. fails;
      asks_next = λ bytes _ fails _. fails;
      ends = λ bytes _ _ holds none. absurd none;
    })

prepared_part : (s : InState) (wire : Wire) (room : Bool) (flow : Flow) (now : ℕ) → IsPart (prepared_step s wire room flow now) → steps.completes s wire ≡ false
prepared_part (AwaitPacket t) wire room flow now =
    cond_both (is_same_kind t.message.kind Etp && grants_next t wire room flow) _ _ (λ x. IsPart (steps.stepped (AwaitPacket x) wire room flow now) → steps.completes (AwaitPacket t) wire ≡ false)
    (λ _. stepped_part (AwaitPacket (record t { message = with_room_for t.message (needed t wire room flow) })) wire room flow now)
    (λ _. stepped_part (AwaitPacket t) wire room flow now)
prepared_part (Holding t) wire room flow now = stepped_part (Holding t) wire room flow now

-- Broadcasts

abbrev IsBroadcastPart : bam-steps.Received → Type 0
IsBroadcastPart (bam-steps.Awaits s) = ⊤
IsBroadcastPart (bam-steps.Completes bytes) = ⊥
IsBroadcastPart bam-steps.Drops = ⊤

broadcast_part : (s : bam.Incoming) (wire : Wire) (now : ℕ) → IsBroadcastPart (bam-steps.stepped s wire now) → bam-steps.completes s wire ≡ false
broadcast_part s (Packet Tp k bytes) now =
    cond_both (nat_lt k next) _ _ P
    (λ below _. other (λ same. omega (arith, same, ltb-true k next below)))
    (λ _. cond_both (nat_lt next k) _ _ P
    (λ above _. other (λ same. omega (arith, same, ltb-true next k above)))
    (λ _. cond_both (not (wants_last s.join)) _ _ P
    (λ inner _. and_left (wants_last s.join) (k == next) (not_true (wants_last s.join) inner))
    (λ _ none. absurd none)))
  where
    next : ℕ
    next = s.join.next

    P : bam-steps.Received → Type 0
    P r = IsBroadcastPart r → (wants_last s.join && k == next) ≡ false

    other : (k ≡ next → ⊥) → (wants_last s.join && k == next) ≡ false
    other apart = and_right (wants_last s.join) (k == next) (ne_eqb k next apart)

    not_true : (b : Bool) → not b ≡ true → b ≡ false
    not_true true e = absurd (cc)
    not_true false e = refl
broadcast_part s (Packet Etp k bytes) now = λ _. refl
broadcast_part s (Cm frame) now = λ _. refl
broadcast_part s (Request pgn) now = λ _. refl
broadcast_part s (Ack control address pgn) now = λ _. refl

-- The session of a key: nothing is left to do but to end it

abbrev pub IsLeftPart : Left → Type 0
IsLeftPart Nothing = ⊤
IsLeftPart Message = ⊥
IsLeftPart (Abort reason) = ⊤
IsLeftPart NoMemory = ⊥

module _ (wire : Wire) (room : Bool) (flow : Flow) (now : ℕ) where
  went_on : (before after : Incoming) (queued left : List CanFrame) → by_frame wire room flow now before Nothing after queued left → completes_by (Some ([], before)) wire ≡ false
  went_on (Broadcast s) (Broadcast t) queued left g = broadcast_part s wire now (subst IsBroadcastPart (sym g.0) tt)
  went_on (Connection s) (Connection t) queued left g = prepared_part s wire room flow now (is_on (prepared_step s wire room flow now) g)
    where
      is_on : (r : Received) → GoesOn r t queued left → IsPart r
      is_on (On x frame) h = tt
      is_on (Complete m) h = absurd h
      is_on (Ended frame) h = absurd h
  went_on (Broadcast s) (Connection t) queued left g = absurd g
  went_on (Connection s) (Broadcast t) queued left g = absurd g

  pub no_whole : (key : Key) (m after : Inbound) (queued left : List CanFrame) (o : Option (List ℕ × Incoming)) (answer : Left) → IsLeftPart answer
      → LeadsAt (by_frame wire room flow now) o answer m key after queued left → completes_by o wire ≡ false
  no_whole key m after queued left None answer part g = refl
  no_whole key m after queued left (Some v) Nothing part g = went_on v.1 g.0 queued left g.2
  no_whole key m after queued left (Some v) (Abort reason) part g = ended v.1 g.1
    where
      ended : (s : Incoming) → by_frame wire room flow now s (Abort reason) s queued left → completes_by (Some (v.0, s)) wire ≡ false
      ended (Broadcast s) h = broadcast_part s wire now (subst IsBroadcastPart (sym h.0.0) tt)
      ended (Connection s) h = prepared_part s wire room flow now (subst IsPart (sym h.0) tt)
  no_whole key m after queued left (Some v) Message part g = absurd part
  no_whole key m after queued left (Some v) NoMemory part g = absurd part
