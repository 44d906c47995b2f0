-- The steps of an incoming session: its destination, PGN field and size stay, and its message has no more bytes than that.
use Rattle.std.proofs.Common.{◌≡◌, ℕ, zero, suc, ◌-◌, ◌≤◌, nat_lt, Bool, not, List, [], ◌∷◌, length, take, ap, arith}
use Rattle.std.proofs.lemmas.List.{length-append}
use Rattle.pgn_ids.specs.Pgn.{clean}
use Rattle.tp_wire.specs.declared.wire.Kind.TheVariants.{Tp, Etp}
use Rattle.tp_wire.specs.declared.wire.Wire.{Wire}
use Rattle.tp_wire.specs.declared.wire.Wire.TheVariants.{Cm, Packet, Request, Ack}
use Rattle.seg_cut.specs.Join.{Join, joined, wants_last}
use Rattle.responder.specs.Peer.{Peer}
use Rattle.responder.specs.Unfinished.{Unfinished, with_packet}
use Rattle.responder.specs.Readers.{unfinished_of}
use Rattle.responder.specs.Asking.{asking}
use Rattle.responder.specs.Steps.{stepped, expired}
use Rattle.responder.specs.Room.{prepared, prepared_to_expire}
use Rattle.responder.specs.declared.flow.Flow.{Flow}
use Rattle.responder.specs.declared.flow.Flow.TheVariants.{Open, Held}
use Rattle.responder.specs.declared.in_state.InState.{InState}
use Rattle.responder.specs.declared.received.Received.{Received}
use Rattle.responder.specs.declared.received.Received.TheVariants.{On, Complete, Ended}
use Rattle.bam_session.specs.States as bam
use Rattle.bam_session.specs.Receiving as bam-steps
use Rattle.session_table.specs.declared.incoming.Incoming.{Incoming}
use Rattle.session_table.specs.declared.incoming.Incoming.TheVariants as incoming
use Rattle.responder.proofs.Rows.{by_rows, by_timer, by_room, by_room_at_timer}
use Rattle.record_law.proofs.Tests.{either}

-- the length of what is taken
taken_short : (n : ℕ) (xs : List ℕ) → length (take n xs) ≤ n
taken_short zero xs = omega arith
taken_short (suc n) [] = omega arith
taken_short (suc n) (x ∷ xs) = let h : length (take n xs) ≤ n = taken_short n xs in omega (arith, h)

module _ (own pgn size : ℕ) where
  -- a join of this size, with no more bytes
  abbrev pub IsJoinOf : Join → Type 0
  IsJoinOf j = (j.size ≡ size) × (length j.bytes ≤ size)

  joins : (j : Join) (packet : List ℕ) → IsJoinOf j → IsJoinOf (joined j packet)
  joins j packet h =
      let short : length (take (j.size - length j.bytes) packet) ≤ j.size - length j.bytes = taken_short (j.size - length j.bytes) packet in
      (h.0, omega (arith, h.0, h.1, short, length-append j.bytes (take (j.size - length j.bytes) packet)))

  abbrev pub IsPart : ℕ → Join → Type 0
  IsPart field join = (field ≡ pgn) × IsJoinOf join

  -- a connection to the own address
  abbrev pub IsTo : Peer → Join → Type 0
  IsTo peer join = (peer.to ≡ own) × IsPart peer.pgn join

  -- a session of this PGN field and size; a connection is to the own address
  abbrev pub IsOf : Incoming → Type 0
  IsOf (incoming.Broadcast s) = IsPart s.pgn s.join
  IsOf (incoming.Connection s) = IsTo (unfinished_of s).peer (unfinished_of s).join

  -- a message of it that is complete
  abbrev pub IsWhole : Peer → List ℕ → Type 0
  IsWhole peer bytes = (peer.to ≡ own) × (clean peer.pgn ≡ clean pgn) × (length bytes ≤ size)

  whole : (peer : Peer) (join : Join) → IsTo peer join → IsWhole peer join.bytes
  whole peer join h = (h.0, ap clean h.1.0, h.1.1.1)

  joins_to : (peer : Peer) (j : Join) (packet : List ℕ) → IsTo peer j → IsTo peer (joined j packet)
  joins_to peer j packet h = (h.0, (h.1.0, joins j packet h.1.1))

  -- Connections

  -- it goes on, or its message is complete
  abbrev pub Goes : Received → Type 0
  Goes (On s frame) = IsOf (incoming.Connection s)
  Goes (Complete m) = IsWhole m.peer m.bytes
  Goes (Ended frame) = Unit {0}

  pub asking_is : (m : Unfinished) (flow : Flow) (now : ℕ) → IsTo m.peer m.join → IsOf (incoming.Connection (asking m flow now))
  asking_is m Open now h = h
  asking_is m Held now h = h

  pub connection_step : (s : InState) (wire : Wire) (room : Bool) (flow : Flow) (now : ℕ) → IsOf (incoming.Connection s) → Goes (stepped s wire room flow now)
  connection_step s wire room flow now h =
      let m : Unfinished = unfinished_of s in
      by_rows Goes flow now s wire room (record {
        same = λ _. h;
        aborts = λ _ reason. tt;
        announces = λ granted until packets offset field timer _ _. h;
        announces_held = λ packets offset field timer _ _. h;
        accepts = λ bytes granted until timer _ _. joins_to m.peer m.join bytes h;
        asks_next = λ bytes _ _. asking_is (with_packet m bytes) flow now (joins_to m.peer m.join bytes h);
        ends = λ bytes _ _ _. whole m.peer (joined m.join bytes) (joins_to m.peer m.join bytes h);
      })

  pub connection_expired : (s : InState) (flow : Flow) (now : ℕ) → IsOf (incoming.Connection s) → Goes (expired s flow now)
  connection_expired s flow now h = by_timer Goes flow now s tt (asking_is (unfinished_of s) flow now h)

  -- room changes no more than the room
  pub connection_prepared : (s : InState) (wire : Wire) (room : Bool) (flow : Flow) → IsOf (incoming.Connection s) → IsOf (incoming.Connection (prepared s wire room flow))
  connection_prepared s wire room flow h = by_room (λ x. IsOf (incoming.Connection x)) s wire room flow h (λ packets granted until timer. h)

  pub connection_prepared_fire : (s : InState) (flow : Flow) → IsOf (incoming.Connection s) → IsOf (incoming.Connection (prepared_to_expire s flow))
  connection_prepared_fire s flow h = by_room_at_timer (λ x. IsOf (incoming.Connection x)) s flow h (λ packets timer. h)

  -- Broadcasts

  abbrev pub GoesBroadcast : bam-steps.Received → Type 0
  GoesBroadcast (bam-steps.Awaits s) = IsOf (incoming.Broadcast s)
  GoesBroadcast (bam-steps.Completes bytes) = length bytes ≤ size
  GoesBroadcast bam-steps.Drops = Unit {0}

  broadcast_packet : (s : bam.Incoming) (k : ℕ) (bytes : List ℕ) (now : ℕ) → IsPart s.pgn s.join → GoesBroadcast (bam-steps.received s k bytes now)
  broadcast_packet s k bytes now h =
      let j : IsJoinOf (joined s.join bytes) = joins s.join bytes h.1 in
      either GoesBroadcast (nat_lt k s.join.next) _ _ h
      (either GoesBroadcast (nat_lt s.join.next k) _ _ tt
      (either GoesBroadcast (not (wants_last s.join)) _ _ (h.0, j) j.1))

  pub broadcast_step : (s : bam.Incoming) (wire : Wire) (now : ℕ) → IsPart s.pgn s.join → GoesBroadcast (bam-steps.stepped s wire now)
  broadcast_step s (Packet Tp k bytes) now h = broadcast_packet s k bytes now h
  broadcast_step s (Packet Etp k bytes) now h = h
  broadcast_step s (Cm frame) now h = h
  broadcast_step s (Request field) now h = h
  broadcast_step s (Ack control address field) now h = h
