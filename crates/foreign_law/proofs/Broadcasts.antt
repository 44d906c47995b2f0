-- What a frame makes of a broadcast under way: its packets so far are the ones that were taken since its BAM, and with the last packet
-- its message was put together.
use Rattle.std.proofs.Common.{◌≡◌, ℕ, ◌+◌, ◌≤◌, nat_lt, Bool, true, false, cond, not, List, [], ◌∷◌, ◌++◌, length, Some, refl, subst, arith, ltb-false}
use Rattle.std.specs.Prelude.{Contains}
use Rattle.std.proofs.lemmas.Bool.{cond_both}
use Rattle.std.proofs.lemmas.List.Elements.{Contains-append_right}
use Rattle.pgn_ids.specs.Address.{global_address}
use Rattle.pgn_ids.specs.Pgn.{clean}
use Rattle.tp_wire.specs.declared.wire.Kind.TheVariants.{Tp, Etp}
use Rattle.tp_wire.specs.declared.wire.Wire.{Wire}
use Rattle.tp_wire.specs.declared.wire.Wire.TheVariants.{Cm, Packet, Request, Ack}
use Rattle.seg_cut.specs.Join.{joined, wants_last}
use Rattle.session_table.specs.declared.key.SessionKind.TheVariants as session
use Rattle.bam_session.specs.States as bam
use Rattle.bam_session.specs.Receiving.{Received, Awaits, Completes, Drops, received, stepped}
use Rattle.segment_law.specs.Told.{Placed}
use Rattle.record_law.proofs.readers.Filled.{IsSeven}
use Rattle.foreign_law.specs.Taken.{Seen, Message}
use Rattle.foreign_law.specs.Assembled.{Transfer, transfer_of, transport_of, kind_for, IsNumber, IsPacket, IsAssembled}
use Rattle.foreign_law.proofs.Later.{AreNext, IsNewest}
use Rattle.foreign_law.proofs.Courses.{Course, course_on, course_next, its_transfer, course_ends}

-- a broadcast is that of a transfer
pub record IsBroadcast (t : Transfer) (s : bam.Incoming) : Type 0 where
  pub kind : session.Broadcast ≡ t.kind
  pub from : s.from ≡ t.from.0
  pub to : global_address ≡ t.to.0
  pub pgn : clean s.pgn ≡ t.pgn

-- the broadcast of a transfer, with these packets so far
pub record IsToAll (taken : List (Placed Seen)) (t : Transfer) (opening : ℕ) (packets : List (Placed (List ℕ))) (s : bam.Incoming) : Type 0 where
  pub is : IsBroadcast t s
  pub course : Course taken t opening packets s.join

-- its message that is complete
abbrev pub message_to_all : bam.Incoming → (bytes : List ℕ) → Message
message_to_all s bytes = record { from = record { 0 = s.from }; to = record { 0 = global_address }; pgn = clean s.pgn; bytes = bytes }

module _ (n : ℕ) (taken more : List (Placed Seen)) (next : AreNext n taken more) (t : Transfer) (opening : ℕ) (packets : List (Placed (List ℕ))) (s : bam.Incoming) (h : IsToAll taken t opening packets s) where
  abbrev all : List (Placed Seen)
  all = taken ++ more

  -- it goes on, its message was put together, or it is dropped
  abbrev pub Goes : Received → Type 0
  Goes (Awaits u) = (ps : List (Placed (List ℕ))) × IsToAll all t opening ps u
  Goes (Completes bytes) = (transfer_of (message_to_all s bytes) ≡ t) × IsAssembled all opening (n + 1, message_to_all s bytes)
  Goes Drops = Unit {0}

  pub broadcast_stays : IsToAll all t opening packets s
  broadcast_stays = record { is = h.is; course = course_on n taken more next t opening packets s.join h.course }

  module _ (le : opening ≤ n) (size : kind_for t.to t.size ≡ t.kind) (newest : IsNewest (taken ++ more) t opening) where
    module _ (sequence : ℕ) (bytes : List ℕ) (now : ℕ) (is_here : Contains more (n + 1, Some (Packet Tp sequence bytes, t.from, t.to))) (seven : length bytes ≡ 7) where
      module _ (is_next : sequence ≡ s.join.next) where
        packet_is : IsPacket all t opening s.join.next (n + 1, bytes)
        packet_is = record {
          sequence = sequence;
          is_taken = subst (λ k. Contains all (n + 1, Some (Packet (transport_of k) sequence bytes, t.from, t.to))) h.is.kind (Contains-append_right taken more _ is_here);
          number = subst (λ k. IsNumber all t k opening (n + 1) sequence s.join.next) h.is.kind is_next;
          seven = seven;
        }

        accepts : IsToAll all t opening (packets ++ (n + 1, bytes) ∷ []) (bam.accepted s bytes now)
        accepts = record { is = record { kind = h.is.kind; from = h.is.from; to = h.is.to; pgn = h.is.pgn }; course = course_next n taken more next t opening packets s.join h.course bytes le packet_is }

        ends : wants_last s.join ≡ true → Goes (Completes (joined s.join bytes).bytes)
        ends last =
            let w : Message = message_to_all s (joined s.join bytes).bytes in
            let from : w.from ≡ t.from = (λ i. record { 0 = h.is.from i }) in
            let to : w.to ≡ t.to = (λ i. record { 0 = h.is.to i }) in (
              its_transfer n taken more next t opening packets s.join h.course bytes le packet_is last w refl from to h.is.pgn size newest,
              course_ends n taken more next t opening packets s.join h.course bytes le packet_is last w refl from to h.is.pgn size newest,
            )

        next_goes : (b : Bool) → wants_last s.join ≡ b → Goes (cond (not b) (Awaits (bam.accepted s bytes now)) (Completes (joined s.join bytes).bytes))
        next_goes true e = ends e
        next_goes false e = (packets ++ (n + 1, bytes) ∷ [], accepts)

      packet_goes : Goes (received s sequence bytes now)
      packet_goes =
          cond_both (nat_lt sequence s.join.next) _ _ Goes
          (λ _. (packets, broadcast_stays))
          (λ not_below. cond_both (nat_lt s.join.next sequence) _ _ Goes
          (λ _. tt)
          (λ not_above. next_goes (omega (arith, ltb-false sequence s.join.next not_below, ltb-false s.join.next sequence not_above)) (wants_last s.join) refl))

    pub broadcast_goes : (wire : Wire) → Contains more (n + 1, Some (wire, t.from, t.to)) → IsSeven wire → (now : ℕ) → Goes (stepped s wire now)
    broadcast_goes (Packet Tp sequence bytes) here seven now = packet_goes sequence bytes now here seven
    broadcast_goes (Packet Etp sequence bytes) here seven now = (packets, broadcast_stays)
    broadcast_goes (Cm frame) here seven now = (packets, broadcast_stays)
    broadcast_goes (Request pgn) here seven now = (packets, broadcast_stays)
    broadcast_goes (Ack control address pgn) here seven now = (packets, broadcast_stays)
