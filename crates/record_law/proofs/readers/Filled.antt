-- The steps of an incoming session: each packet before the next one is there whole, and a message that is complete has the size
-- that was announced.
use Rattle.std.proofs.Common.{◌≡◌, ◌⊎◌, inl, inr, ℕ, ◌+◌, ◌-◌, ◌*◌, ◌<◌, ◌≤◌, nat_lt, Bool, true, cond, not, List, length, take, ap, ◌∙◌, arith, ⊎_elim, subst}
use Rattle.std.proofs.lemmas.Bool.{cases_lt, eqb-true}
use Rattle.std.proofs.lemmas.List.{length-append, length-take-le, take_all}
use Rattle.tp_wire.specs.declared.wire.Kind.TheVariants.{Tp, Etp}
use Rattle.tp_wire.specs.declared.wire.Wire.{Wire}
use Rattle.tp_wire.specs.declared.wire.Wire.TheVariants.{Cm, Packet, Request, Ack}
use Rattle.seg_cut.specs.Join.{Join, joined, wants_last}
use Rattle.seg_cut.specs.Packets.{packet_count}
use Rattle.responder.specs.Unfinished.{Unfinished, with_packet}
use Rattle.responder.specs.Readers.{unfinished_of}
use Rattle.responder.specs.Asking.{asking}
use Rattle.responder.specs.Steps.{stepped, expired}
use Rattle.responder.specs.Room.{with_room_for, prepared, prepared_to_expire}
use Rattle.responder.specs.declared.flow.Flow.{Flow}
use Rattle.responder.specs.declared.flow.Flow.TheVariants.{Open, Held}
use Rattle.responder.specs.declared.in_state.InState.{InState}
use Rattle.responder.specs.declared.in_state.InState.TheVariants.{AwaitPacket}
use Rattle.responder.specs.declared.received.Received.{Received}
use Rattle.responder.specs.declared.received.Received.TheVariants.{On, Complete, Ended}
use Rattle.bam_session.specs.States as bam
use Rattle.bam_session.specs.Receiving as bam-steps
use Rattle.responder.proofs.Rows.{IsNextPacket, by_rows, by_timer, by_room, by_room_at_timer}
use Rattle.record_law.proofs.Tests.{on_test, either}

-- Joins

-- all bytes came, or the packets before the next one
abbrev pub IsFilled : Join → Type 0
IsFilled j = (length j.bytes ≡ j.size) ⊎ ((1 ≤ j.next) × (length j.bytes ≡ 7 * (j.next - 1)) × (7 * (j.next - 1) ≤ j.size))

-- a data packet has seven bytes
abbrev pub IsSeven : Wire → Type 0
IsSeven (Packet kind k bytes) = length bytes ≡ 7
IsSeven (Cm frame) = Unit {0}
IsSeven (Request pgn) = Unit {0}
IsSeven (Ack control address pgn) = Unit {0}

module _ (j : Join) (packet : List ℕ) (seven : length packet ≡ 7) where
  abbrev left : ℕ
  left = j.size - length j.bytes

  -- less than a packet is left: with it all bytes came
  short : left ≤ 7 → length j.bytes ≤ j.size → length (joined j packet).bytes ≡ j.size
  short le within =
      let part : length (take left packet) ≡ left = length-take-le left packet (omega (arith, seven, le)) in
      omega (arith, within, part, length-append j.bytes (take left packet))

  long : 7 ≤ left → length (joined j packet).bytes ≡ length j.bytes + 7
  long le =
      let part : length (take left packet) ≡ 7 = ap length (take_all left packet (omega (arith, seven, le))) ∙ seven in
      omega (arith, part, length-append j.bytes (take left packet))

  fills : IsFilled j → IsFilled (joined j packet)
  fills (inl all) = inl (short (omega (arith, all)) (omega (arith, all)))
  fills (inr h) =
      ⊎_elim
      (λ (lt : left < 7). inl (short (omega (arith, lt)) (omega (arith, h.1, h.2))))
      (λ (le : 7 ≤ left). inr (omega (arith, h.0), omega (arith, h.0, h.1, long le), omega (arith, h.0, h.1, h.2, le)))
      (cases_lt left 7)

  -- with the last packet
  whole : IsFilled j → wants_last j ≡ true → length (joined j packet).bytes ≡ j.size
  whole (inl all) e = short (omega (arith, all)) (omega (arith, all))
  whole (inr h) e =
      let last : j.next ≡ packet_count j.size = eqb-true j.next (packet_count j.size) e in
      short (omega (arith, last, h.0, h.1, h.2)) (omega (arith, h.1, h.2))

-- Connections

-- it goes on, or its message is complete
abbrev pub Goes : ℕ → Received → Type 0
Goes size (On s frame) = IsFilled (unfinished_of s).join
Goes size (Complete m) = length m.bytes ≡ size
Goes size (Ended frame) = Unit {0}

pub asking_filled : (m : Unfinished) (flow : Flow) (now : ℕ) → IsFilled m.join → IsFilled (unfinished_of (asking m flow now)).join
asking_filled m Open now h = h
asking_filled m Held now h = h

-- a packet that is the next one has seven bytes
seven_of : (m : Unfinished) (wire : Wire) (bytes : List ℕ) → IsSeven wire → IsNextPacket m wire bytes → length bytes ≡ 7
seven_of m wire bytes seven n = subst IsSeven n.is seven

pub step_fills : (s : InState) (wire : Wire) (room : Bool) (flow : Flow) (now : ℕ) → IsSeven wire → IsFilled (unfinished_of s).join → Goes (unfinished_of s).join.size (stepped s wire room flow now)
step_fills s wire room flow now seven h =
    let m : Unfinished = unfinished_of s in
    by_rows (Goes m.join.size) flow now s wire room (record {
      same = λ _. h;
      aborts = λ _ reason. tt;
      announces = λ granted until packets offset pgn timer _ _. h;
      announces_held = λ packets offset pgn timer _ _. h;
      accepts = λ bytes granted until timer n _. fills m.join bytes (seven_of m wire bytes seven n) h;
      asks_next = λ bytes n _. asking_filled (with_packet m bytes) flow now (fills m.join bytes (seven_of m wire bytes seven n) h);
      ends = λ bytes n l _. whole m.join bytes (seven_of m wire bytes seven n) h l;
    })

-- room changes no more than the room
pub connection_step : (s : InState) (wire : Wire) (room : Bool) (flow : Flow) (now : ℕ) → IsSeven wire → IsFilled (unfinished_of s).join → Goes (unfinished_of s).join.size (stepped (prepared s wire room flow) wire room flow now)
connection_step s wire room flow now seven h =
    by_room (λ p. Goes (unfinished_of s).join.size (stepped p wire room flow now)) s wire room flow
    (step_fills s wire room flow now seven h)
    (λ packets granted until timer. step_fills (AwaitPacket (record { message = with_room_for (unfinished_of s) packets; granted = granted; until = until; timer = timer })) wire room flow now seven h)

pub connection_expired : (s : InState) (flow : Flow) (now : ℕ) → IsFilled (unfinished_of s).join → Goes (unfinished_of s).join.size (expired (prepared_to_expire s flow) flow now)
connection_expired s flow now h =
    by_room_at_timer (λ p. Goes (unfinished_of s).join.size (expired p flow now)) s flow
    (by_timer (Goes (unfinished_of s).join.size) flow now s tt (asking_filled (unfinished_of s) flow now h))
    (λ packets timer. asking_filled (with_room_for (unfinished_of s) packets) flow now h)

-- Broadcasts

abbrev pub GoesBroadcast : ℕ → bam-steps.Received → Type 0
GoesBroadcast size (bam-steps.Awaits s) = IsFilled s.join
GoesBroadcast size (bam-steps.Completes bytes) = length bytes ≡ size
GoesBroadcast size bam-steps.Drops = Unit {0}

broadcast_packet : (s : bam.Incoming) (k : ℕ) (bytes : List ℕ) (now : ℕ) → length bytes ≡ 7 → IsFilled s.join → GoesBroadcast s.join.size (bam-steps.received s k bytes now)
broadcast_packet s k bytes now seven h =
    either (GoesBroadcast s.join.size) (nat_lt k s.join.next) _ _ h
    (either (GoesBroadcast s.join.size) (nat_lt s.join.next k) _ _ tt
    (on_test (λ w. GoesBroadcast s.join.size (cond (not w) (bam-steps.Awaits (bam.accepted s bytes now)) (bam-steps.Completes (joined s.join bytes).bytes))) (wants_last s.join)
    (λ e. whole s.join bytes seven h e)
    (λ e. fills s.join bytes seven h)))

pub broadcast_step : (s : bam.Incoming) (wire : Wire) (now : ℕ) → IsSeven wire → IsFilled s.join → GoesBroadcast s.join.size (bam-steps.stepped s wire now)
broadcast_step s (Packet Tp k bytes) now seven h = broadcast_packet s k bytes now seven h
broadcast_step s (Packet Etp k bytes) now seven h = h
broadcast_step s (Cm frame) now seven h = h
broadcast_step s (Request field) now seven h = h
broadcast_step s (Ack control address field) now seven h = h
