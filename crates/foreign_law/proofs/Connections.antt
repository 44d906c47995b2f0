-- What a frame makes of a connection under way: its packets so far are the ones that were taken since its opening, its offset is that
-- of the last DPO, and with the last packet its message was put together.
use Rattle.std.proofs.Common.{◌≡◌, ◌⊎◌, inl, inr, ℕ, ◌+◌, ◌-◌, ◌<◌, ◌≤◌, ◌==◌, nat_lt, Bool, true, false, cond, not, ◌&&◌, ◌||◌, List, [], ◌∷◌, ◌++◌, length, Option, Some, None, refl, sym, ap, ◌∙◌, subst, arith, ltb-false, eqb-true, eq-eqb}
use Rattle.std.specs.Prelude.{nat_le, Contains}
use Rattle.std.proofs.lemmas.Bool.{or_parts, cond_both}
use Rattle.std.proofs.lemmas.Option.{same_Some}
use Rattle.std.proofs.lemmas.List.Elements.{Contains-append_right}
use Rattle.pgn_ids.specs.Pgn.{clean}
use Rattle.tp_wire.specs.Kinds.{is_same_kind}
use Rattle.tp_wire.specs.declared.reason.AbortReason.TheVariants.{Resources}
use Rattle.tp_wire.specs.declared.wire.Kind.{Kind}
use Rattle.tp_wire.specs.declared.wire.Kind.TheVariants.{Tp, Etp}
use Rattle.tp_wire.specs.declared.wire.CmFrame.{CmFrame}
use Rattle.tp_wire.specs.declared.wire.CmFrame.TheVariants.{Rts, Cts, EndOfMsgAck, Bam, Abort, EtpRts, EtpCts, EtpDpo, EtpEoma, EtpAbort}
use Rattle.tp_wire.specs.declared.wire.Wire.{Wire}
use Rattle.tp_wire.specs.declared.wire.Wire.TheVariants.{Cm, Packet, Request, Ack}
use Rattle.seg_cut.specs.Join.{joined, wants_last}
use Rattle.session_table.specs.Key.{session_for}
use Rattle.session_table.specs.declared.key.SessionKind.TheVariants as session
use Rattle.responder.specs.Unfinished.{Unfinished, number_of, is_of_another, with_offset, with_packet, finished}
use Rattle.responder.specs.Finished.{Finished}
use Rattle.responder.specs.States as states
use Rattle.responder.specs.Readers.{unfinished_of}
use Rattle.responder.specs.AwaitPacket.{aborted, accepted, on_packet, on_dpo, is_wrong_dpo}
use Rattle.responder.specs.Holding.{on_dpo_in_hold, holding_stepped}
use Rattle.responder.specs.Asking.{asking, asks}
use Rattle.responder.specs.Room.{grants_next, needed, with_room_for, prepared, prepared_to_expire}
use Rattle.responder.specs.Window.{window}
use Rattle.responder.specs.Steps.{awaiting_stepped, stepped, expired}
use Rattle.responder.specs.declared.flow.Flow.{Flow}
use Rattle.responder.specs.declared.flow.Flow.TheVariants.{Open, Held}
use Rattle.responder.specs.declared.in_state.InState.{InState}
use Rattle.responder.specs.declared.in_state.InState.TheVariants.{AwaitPacket, Holding}
use Rattle.responder.specs.declared.received.Received.{Received}
use Rattle.responder.specs.declared.received.Received.TheVariants.{On, Complete, Ended}
use Rattle.responder.proofs.Rows.{same_kinds, by_timer}
use Rattle.segment_law.specs.Told.{Placed}
use Rattle.record_law.proofs.Tests.{either, not_fails}
use Rattle.record_law.proofs.readers.Filled.{IsSeven}
use Rattle.foreign_law.specs.Taken.{Seen, Message}
use Rattle.foreign_law.specs.Assembled.{Transfer, transfer_of, transport_of, kind_for, IsOffsetAt, IsLastOffset, IsNumber, IsPacket, IsAssembled}
use Rattle.foreign_law.proofs.Later.{AreNext, HasNoOffset, IsNewest, last_on, last_stays, last_new}
use Rattle.foreign_law.proofs.Courses.{Course, course_on, course_same, course_next, its_transfer, course_ends}

-- the frame of what was seen
abbrev pub wire_of : Seen → Option Wire
wire_of None = None
wire_of (Some m) = Some m.0

-- a connection is that of a transfer
pub record IsConnection (t : Transfer) (m : Unfinished) : Type 0 where
  pub kind : session_for m.kind ≡ t.kind
  pub from : m.peer.from ≡ t.from.0
  pub to : m.peer.to ≡ t.to.0
  pub pgn : clean m.peer.pgn ≡ t.pgn

-- the next packet was not announced
abbrev pub IsUnannounced : InState → Type 0
IsUnannounced (AwaitPacket s) = s.until < s.message.join.next
IsUnannounced (Holding s) = Unit {0}

module _ (taken : List (Placed Seen)) (t : Transfer) (opening : ℕ) where
  -- the offset of a connection is that of the last DPO before a place, or the next packet is still to be announced; in TP it is 0
  abbrev pub KeepsOffset : Kind → (before offset : ℕ) → (Unannounced : Type 0) → Type 0
  KeepsOffset Tp before offset Unannounced = offset ≡ 0
  KeepsOffset Etp before offset Unannounced = IsLastOffset taken t opening before offset ⊎ Unannounced

  -- the connection of a transfer, with these packets so far
  pub record IsUnderWay (before : ℕ) (packets : List (Placed (List ℕ))) (s : InState) : Type 0 where
    pub is : IsConnection t (unfinished_of s)
    pub course : Course taken t opening packets (unfinished_of s).join
    pub offset : KeepsOffset (unfinished_of s).kind before (unfinished_of s).offset (IsUnannounced s)

  -- with more room it is the same
  pub roomier : (before : ℕ) (packets : List (Placed (List ℕ))) (s : InState) (wire : Wire) (room : Bool) (flow : Flow) → IsUnderWay before packets s → IsUnderWay before packets (prepared s wire room flow)
  roomier before packets (Holding s) wire room flow h = h
  roomier before packets (AwaitPacket s) wire room flow h =
      either (λ (x : states.AwaitPacket). IsUnderWay before packets (AwaitPacket x)) (is_same_kind s.message.kind Etp && grants_next s wire room flow) (record s { message = with_room_for s.message (needed s wire room flow) }) s
      (record { is = record { kind = h.is.kind; from = h.is.from; to = h.is.to; pgn = h.is.pgn }; course = course_same taken t opening packets s.message.join _ refl refl refl h.course; offset = h.offset })
      h

  pub roomier_at_timer : (before : ℕ) (packets : List (Placed (List ℕ))) (s : InState) (flow : Flow) → IsUnderWay before packets s → IsUnderWay before packets (prepared_to_expire s flow)
  roomier_at_timer before packets (AwaitPacket s) flow h = h
  roomier_at_timer before packets (Holding s) Held h = h
  roomier_at_timer before packets (Holding s) Open h =
      either (λ (x : states.Holding). IsUnderWay before packets (Holding x)) (is_same_kind s.message.kind Etp) (record s { message = with_room_for s.message (window s.message.most s.message.join.size s.message.join.next) }) s
      (record { is = record { kind = h.is.kind; from = h.is.from; to = h.is.to; pgn = h.is.pgn }; course = course_same taken t opening packets s.message.join _ refl refl refl h.course; offset = h.offset })
      h

  -- a connection that asks for packets
  pub asks_for : (before : ℕ) (packets : List (Placed (List ℕ))) (m : Unfinished) (flow : Flow) (now : ℕ) → IsConnection t m → Course taken t opening packets m.join → (m.kind ≡ Tp → m.offset ≡ 0) → IsUnderWay before packets (asking m flow now)
  asks_for before packets m Held now is course tp = record { is = is; course = course; offset = by m.kind refl }
    where
      by : (k : Kind) → m.kind ≡ k → KeepsOffset k before m.offset (IsUnannounced (Holding (states.on_hold m now)))
      by Tp e = tp e
      by Etp e = inr tt
  asks_for before packets m Open now is course tp = record { is = is; course = course; offset = by m.kind refl }
    where
      by : (k : Kind) → m.kind ≡ k → KeepsOffset k before m.offset (IsUnannounced (AwaitPacket (states.with_window m now)))
      by Tp e = tp e
      by Etp e = inr (let l : m.join.next ≡ length packets + 1 = course.next in subst (λ k. states.announced_at_first k m.join.next (states.window_end m) < m.join.next) (sym e) (omega (arith, l)))

-- in TP the offset is 0
tp_offset : (taken : List (Placed Seen)) (t : Transfer) (opening before : ℕ) (packets : List (Placed (List ℕ))) (s : InState) → IsUnderWay taken t opening before packets s → (unfinished_of s).kind ≡ Tp → (unfinished_of s).offset ≡ 0
tp_offset taken t opening before packets s h e = subst (λ k. KeepsOffset taken t opening k before (unfinished_of s).offset (IsUnannounced s)) e h.offset

module _ (n : ℕ) (taken more : List (Placed Seen)) (next : AreNext n taken more) (t : Transfer) (opening : ℕ) (packets : List (Placed (List ℕ))) where
  abbrev all : List (Placed Seen)
  all = taken ++ more

  -- it is under way, as far as n calls go; and so after one more
  abbrev pub Was : InState → Type 0
  Was s = IsUnderWay taken t opening (n + 1) packets s

  abbrev pub Is : List (Placed (List ℕ)) → InState → Type 0
  Is ps s = IsUnderWay all t opening (n + 1 + 1) ps s

  -- a frame that is no DPO of it, and no packet
  pub connection_stays : (t.kind ≡ session.Etp → HasNoOffset more t) → (s : InState) → Was s → Is packets s
  connection_stays quiet s h = record { is = h.is; course = course_on n taken more next t opening packets (unfinished_of s).join h.course; offset = by (unfinished_of s).kind refl h.offset }
    where
      by : (k : Kind) → (unfinished_of s).kind ≡ k → KeepsOffset taken t opening k (n + 1) (unfinished_of s).offset (IsUnannounced s) → KeepsOffset all t opening k (n + 1 + 1) (unfinished_of s).offset (IsUnannounced s)
      by Tp e o = o
      by Etp e (inl o) = inl (last_stays n taken more next t opening (unfinished_of s).offset (quiet (sym h.is.kind ∙ ap session_for e)) o)
      by Etp e (inr u) = inr u

  -- the timer of a connection on hold
  pub connection_asks : (s : InState) → Was s → (flow : Flow) (now : ℕ) → Is packets (asking (unfinished_of s) flow now)
  connection_asks s h flow now = asks_for all t opening (n + 1 + 1) packets (unfinished_of s) flow now h.is (course_on n taken more next t opening packets (unfinished_of s).join h.course) (tp_offset taken t opening (n + 1) packets s h)

  -- the message of a connection that is complete
  abbrev pub message_of : Finished → Message
  message_of m = record { from = record { 0 = m.peer.from }; to = record { 0 = m.peer.to }; pgn = clean m.peer.pgn; bytes = m.bytes }

  -- it goes on, its message was put together, or it has ended
  abbrev pub Goes : Received → Type 0
  Goes (On s frame) = (ps : List (Placed (List ℕ))) × Is ps s
  Goes (Complete m) = (transfer_of (message_of m) ≡ t) × IsAssembled all opening (n + 1, message_of m)
  Goes (Ended frame) = Unit {0}

  module _ (le : opening ≤ n) (size : kind_for t.to t.size ≡ t.kind) (newest : IsNewest (taken ++ more) t opening) where
    -- A packet

    module _ (s : states.AwaitPacket) (h : Was (AwaitPacket s)) (sequence : ℕ) (bytes : List ℕ) (room : Bool) (flow : Flow) (now : ℕ)
        (is_here : Contains more (n + 1, Some (Packet s.message.kind sequence bytes, t.from, t.to))) (seven : length bytes ≡ 7) (quiet : HasNoOffset more t) where
      abbrev m : Unfinished
      m = s.message

      abbrev number : ℕ
      number = number_of m sequence

      abbrev to_come : ℕ
      to_come = m.join.next

      module _ (is_next : number ≡ to_come) (is_announced : to_come ≤ s.until) where
        its_number : (k : Kind) → m.kind ≡ k → KeepsOffset taken t opening k (n + 1) m.offset (s.until < to_come) → IsNumber all t (session_for k) opening (n + 1) sequence to_come
        its_number Tp e o = (let z : m.offset ≡ 0 = o in omega (arith, z, is_next))
        its_number Etp e (inl o) = (m.offset, last_on n taken more next t opening (n + 1) m.offset (omega arith) o, is_next)
        its_number Etp e (inr u) = absurd (omega (arith, u, is_announced))

        carried : (k : Kind) → transport_of (session_for k) ≡ k
        carried Tp = refl
        carried Etp = refl

        packet_is : IsPacket all t opening to_come (n + 1, bytes)
        packet_is = record {
          sequence = sequence;
          is_taken = subst (λ k. Contains all (n + 1, Some (Packet k sequence bytes, t.from, t.to))) (sym (carried m.kind) ∙ ap transport_of h.is.kind) (Contains-append_right taken more _ is_here);
          number = subst (λ k. IsNumber all t k opening (n + 1) sequence to_come) h.is.kind (its_number m.kind refl h.offset);
          seven = seven;
        }

        abbrev with_it : List (Placed (List ℕ))
        with_it = packets ++ (n + 1, bytes) ∷ []

        course : Course all t opening with_it (joined m.join bytes)
        course = course_next n taken more next t opening packets m.join h.course bytes le packet_is

        is : IsConnection t (with_packet m bytes)
        is = record { kind = h.is.kind; from = h.is.from; to = h.is.to; pgn = h.is.pgn }

        accepts : Is with_it (AwaitPacket (accepted s bytes now))
        accepts = record { is = is; course = course; offset = by m.kind refl h.offset }
          where
            by : (k : Kind) → m.kind ≡ k → KeepsOffset taken t opening k (n + 1) m.offset (s.until < to_come) → KeepsOffset all t opening k (n + 1 + 1) m.offset (s.until < to_come + 1)
            by Tp e o = o
            by Etp e (inl o) = inl (last_stays n taken more next t opening m.offset quiet o)
            by Etp e (inr u) = absurd (omega (arith, u, is_announced))

        asks_on : Is with_it (asking (with_packet m bytes) flow now)
        asks_on = asks_for all t opening (n + 1 + 1) with_it (with_packet m bytes) flow now is course (tp_offset taken t opening (n + 1) packets (AwaitPacket s) h)

        ends : wants_last m.join ≡ true → Goes (Complete (finished (with_packet m bytes)))
        ends last =
            let w : Message = message_of (finished (with_packet m bytes)) in
            let from : w.from ≡ t.from = (λ i. record { 0 = h.is.from i }) in
            let to : w.to ≡ t.to = (λ i. record { 0 = h.is.to i }) in (
              its_transfer n taken more next t opening packets m.join h.course bytes le packet_is last w refl from to h.is.pgn size newest,
              course_ends n taken more next t opening packets m.join h.course bytes le packet_is last w refl from to h.is.pgn size newest,
            )

        abbrev rest : Bool → Received
        rest b = cond (not b && nat_lt number s.until) (On (AwaitPacket (accepted s bytes now)) None) (cond (not b && room) (asks (with_packet m bytes) flow now) (cond (not b) (aborted m Resources) (Complete (finished (with_packet m bytes)))))

        next_goes : (b : Bool) → wants_last m.join ≡ b → Goes (rest b)
        next_goes true e = ends e
        next_goes false e = either Goes (nat_lt number s.until) _ _ (with_it, accepts) (either Goes room _ _ (with_it, asks_on) tt)

      packet_goes : Goes (on_packet s number bytes room flow now)
      packet_goes =
          cond_both (nat_lt number to_come) _ _ Goes
          (λ _. (packets, connection_stays (λ _. quiet) (AwaitPacket s) h))
          (λ not_below. cond_both (nat_lt to_come number || nat_lt s.until to_come) _ _ Goes
          (λ _. tt)
          (λ not_out. let p : (nat_lt to_come number ≡ false) × (nat_lt s.until to_come ≡ false) = or_parts (nat_lt to_come number) (nat_lt s.until to_come) not_out in
          next_goes (omega (arith, ltb-false number to_come not_below, ltb-false to_come number p.0)) (omega (arith, ltb-false s.until to_come p.1)) (wants_last m.join) refl))

    -- A frame of its source

    of_another : (announces offset pgn : ℕ) → ((y : Placed Seen) → Contains more y → wire_of y.1 ≡ Some (Cm (EtpDpo announces offset pgn))) → (m : Unfinished) → IsConnection t m → is_of_another m.peer pgn ≡ true → HasNoOffset more t
    of_another announces offset pgn only m is other place o k =
        let e : Cm (EtpDpo k.0 o k.1) ≡ Cm (EtpDpo announces offset pgn) = same_Some _ _ (only _ k.2) in
        let f : k.1 ≡ pgn = cc in
        let g : clean pgn ≡ clean m.peer.pgn = ap clean (sym f) ∙ k.3 ∙ sym is.pgn in
        let b : (clean pgn == clean m.peer.pgn) ≡ true = eq-eqb (clean pgn) (clean m.peer.pgn) g in
        absurd (let c : not true ≡ true = ap not (sym b) ∙ other in cc)

    offset_set : (offset : ℕ) (Unannounced : Type 0) (k : Kind) → k ≡ Etp → IsOffsetAt more t (n + 1) offset → KeepsOffset all t opening k (n + 1 + 1) offset Unannounced
    offset_set offset Unannounced Tp e o = absurd (cc)
    offset_set offset Unannounced Etp e o = inl (last_new n taken more next t opening offset le o)

    module _ (announces offset pgn : ℕ) (is_here : Contains more (n + 1, Some (Cm (EtpDpo announces offset pgn), t.from, t.to))) (only : (y : Placed Seen) → Contains more y → wire_of y.1 ≡ Some (Cm (EtpDpo announces offset pgn))) where
      its_offset : (m : Unfinished) → IsConnection t m → is_of_another m.peer pgn ≡ false → IsOffsetAt more t (n + 1) offset
      its_offset m is own = (announces, pgn, is_here, eqb-true (clean pgn) (clean m.peer.pgn) (not_fails (clean pgn == clean m.peer.pgn) own) ∙ is.pgn)

      dpo_goes : (s : states.AwaitPacket) → Was (AwaitPacket s) → s.message.kind ≡ Etp → Goes (on_dpo s announces offset pgn)
      dpo_goes s h e =
          cond_both (is_of_another s.message.peer pgn) _ _ Goes
          (λ other. (packets, connection_stays (λ _. of_another announces offset pgn only s.message h.is other) (AwaitPacket s) h))
          (λ own. cond_both (is_wrong_dpo s.message.join.next s.granted announces offset) _ _ Goes (λ _. tt)
          (λ _. cond_both (nat_le s.message.join.next (offset + announces)) _ _ (λ (x : states.AwaitPacket). Goes (On (AwaitPacket x) None))
          (λ _. (packets, record { is = is_of s.message h.is; course = course_on n taken more next t opening packets s.message.join h.course; offset = offset_set offset _ s.message.kind e (its_offset s.message h.is own) }))
          (λ _. (packets, record { is = is_of s.message h.is; course = course_on n taken more next t opening packets s.message.join h.course; offset = offset_set offset _ s.message.kind e (its_offset s.message h.is own) }))))
        where
          is_of : (m : Unfinished) → IsConnection t m → IsConnection t (with_offset m offset)
          is_of m is = record { kind = is.kind; from = is.from; to = is.to; pgn = is.pgn }

      dpo_in_hold_goes : (s : states.Holding) → Was (Holding s) → s.message.kind ≡ Etp → Goes (on_dpo_in_hold s announces offset pgn)
      dpo_in_hold_goes s h e =
          cond_both (is_of_another s.message.peer pgn) _ _ Goes
          (λ other. (packets, connection_stays (λ _. of_another announces offset pgn only s.message h.is other) (Holding s) h))
          (λ own. cond_both (is_wrong_dpo s.message.join.next (s.message.join.next - 1) announces offset) _ _ Goes (λ _. tt)
          (λ _. (
            packets,
            record {
              is = record { kind = h.is.kind; from = h.is.from; to = h.is.to; pgn = h.is.pgn };
              course = course_on n taken more next t opening packets s.message.join h.course;
              offset = offset_set offset _ s.message.kind e (its_offset s.message h.is own);
            },
          )))

    abbrev Here : Wire → Type 0
    Here wire = Contains more (n + 1, Some (wire, t.from, t.to))

    abbrev Only : Wire → Type 0
    Only wire = (y : Placed Seen) → Contains more y → wire_of y.1 ≡ Some wire

    same : (s : InState) → Was s → (wire : Wire) → Only wire → ((announces offset field : ℕ) → wire ≡ Cm (EtpDpo announces offset field) → ⊥) → Goes (On s None)
    same s h wire only none = (packets, connection_stays (λ _ place offset o. none o.0 offset o.1 (sym (same_Some _ _ (only _ o.2)))) s h)

    cm_same : (s : InState) → Was s → (frame : CmFrame) → Only (Cm frame) → ((announces offset field : ℕ) → frame ≡ EtpDpo announces offset field → ⊥) → Goes (On s None)
    cm_same s h frame only none = same s h (Cm frame) only (λ announces offset field e. none announces offset field (cc))

    tp_same : (s : InState) → Was s → (unfinished_of s).kind ≡ Tp → Goes (On s None)
    tp_same s h e = (packets, connection_stays (λ etp. absurd (let f : session_for Tp ≡ session.Etp = sym (ap session_for e) ∙ h.is.kind ∙ etp in cc)) s h)

    not_etp : (k : Kind) → is_same_kind k Etp ≡ false → k ≡ Tp
    not_etp Tp e = refl
    not_etp Etp e = absurd (cc)

    awaiting_cm : (s : states.AwaitPacket) → Was (AwaitPacket s) → (frame : CmFrame) → Here (Cm frame) → Only (Cm frame) → (room : Bool) (flow : Flow) (now : ℕ) → Goes (awaiting_stepped s (Cm frame) room flow now)
    awaiting_cm s h (EtpDpo announces offset pgn) here only room flow now = cond_both (is_same_kind s.message.kind Etp) _ _ Goes
        (λ e. dpo_goes announces offset pgn here only s h (same_kinds s.message.kind Etp e))
        (λ e. tp_same (AwaitPacket s) h (not_etp s.message.kind e))
    awaiting_cm s h (Rts size number most pgn) here only room flow now = cm_same (AwaitPacket s) h (Rts size number most pgn) only (λ x y z e. cc)
    awaiting_cm s h (Cts granted number pgn) here only room flow now = cm_same (AwaitPacket s) h (Cts granted number pgn) only (λ x y z e. cc)
    awaiting_cm s h (EndOfMsgAck size number pgn) here only room flow now = cm_same (AwaitPacket s) h (EndOfMsgAck size number pgn) only (λ x y z e. cc)
    awaiting_cm s h (Bam size number pgn) here only room flow now = cm_same (AwaitPacket s) h (Bam size number pgn) only (λ x y z e. cc)
    awaiting_cm s h (Abort reason pgn) here only room flow now = cm_same (AwaitPacket s) h (Abort reason pgn) only (λ x y z e. cc)
    awaiting_cm s h (EtpRts size pgn) here only room flow now = cm_same (AwaitPacket s) h (EtpRts size pgn) only (λ x y z e. cc)
    awaiting_cm s h (EtpCts granted number pgn) here only room flow now = cm_same (AwaitPacket s) h (EtpCts granted number pgn) only (λ x y z e. cc)
    awaiting_cm s h (EtpEoma size pgn) here only room flow now = cm_same (AwaitPacket s) h (EtpEoma size pgn) only (λ x y z e. cc)
    awaiting_cm s h (EtpAbort reason pgn) here only room flow now = cm_same (AwaitPacket s) h (EtpAbort reason pgn) only (λ x y z e. cc)

    holding_cm : (s : states.Holding) → Was (Holding s) → (frame : CmFrame) → Here (Cm frame) → Only (Cm frame) → Goes (holding_stepped s (Cm frame))
    holding_cm s h (EtpDpo announces offset pgn) here only = cond_both (is_same_kind s.message.kind Etp) _ _ Goes
        (λ e. dpo_in_hold_goes announces offset pgn here only s h (same_kinds s.message.kind Etp e))
        (λ e. tp_same (Holding s) h (not_etp s.message.kind e))
    holding_cm s h (Rts size number most pgn) here only = cm_same (Holding s) h (Rts size number most pgn) only (λ x y z e. cc)
    holding_cm s h (Cts granted number pgn) here only = cm_same (Holding s) h (Cts granted number pgn) only (λ x y z e. cc)
    holding_cm s h (EndOfMsgAck size number pgn) here only = cm_same (Holding s) h (EndOfMsgAck size number pgn) only (λ x y z e. cc)
    holding_cm s h (Bam size number pgn) here only = cm_same (Holding s) h (Bam size number pgn) only (λ x y z e. cc)
    holding_cm s h (Abort reason pgn) here only = cm_same (Holding s) h (Abort reason pgn) only (λ x y z e. cc)
    holding_cm s h (EtpRts size pgn) here only = cm_same (Holding s) h (EtpRts size pgn) only (λ x y z e. cc)
    holding_cm s h (EtpCts granted number pgn) here only = cm_same (Holding s) h (EtpCts granted number pgn) only (λ x y z e. cc)
    holding_cm s h (EtpEoma size pgn) here only = cm_same (Holding s) h (EtpEoma size pgn) only (λ x y z e. cc)
    holding_cm s h (EtpAbort reason pgn) here only = cm_same (Holding s) h (EtpAbort reason pgn) only (λ x y z e. cc)

    step_goes : (s : InState) → Was s → (wire : Wire) → Here wire → Only wire → IsSeven wire → (room : Bool) (flow : Flow) (now : ℕ) → Goes (stepped s wire room flow now)
    step_goes (AwaitPacket s) h (Cm frame) here only seven room flow now = awaiting_cm s h frame here only room flow now
    step_goes (AwaitPacket s) h (Packet kind sequence bytes) here only seven room flow now = cond_both (is_same_kind s.message.kind kind) _ _ Goes
        (λ e. packet_goes s h sequence bytes room flow now (subst (λ k. Here (Packet k sequence bytes)) (sym (same_kinds s.message.kind kind e)) here) seven (λ place offset o. absurd (let f : Cm (EtpDpo o.0 offset o.1) ≡ Packet kind sequence bytes = same_Some _ _ (only _ o.2) in cc)))
        (λ e. same (AwaitPacket s) h (Packet kind sequence bytes) only (λ x y z f. cc))
    step_goes (AwaitPacket s) h (Request pgn) here only seven room flow now = same (AwaitPacket s) h (Request pgn) only (λ x y z f. cc)
    step_goes (AwaitPacket s) h (Ack control address pgn) here only seven room flow now = same (AwaitPacket s) h (Ack control address pgn) only (λ x y z f. cc)
    step_goes (Holding s) h (Cm frame) here only seven room flow now = holding_cm s h frame here only
    step_goes (Holding s) h (Packet kind sequence bytes) here only seven room flow now = cond_both (is_same_kind s.message.kind kind) _ _ Goes
        (λ _. cond_both (nat_lt (number_of s.message sequence) s.message.join.next) _ _ Goes (λ _. same (Holding s) h (Packet kind sequence bytes) only (λ x y z f. cc)) (λ _. tt))
        (λ _. same (Holding s) h (Packet kind sequence bytes) only (λ x y z f. cc))
    step_goes (Holding s) h (Request pgn) here only seven room flow now = same (Holding s) h (Request pgn) only (λ x y z f. cc)
    step_goes (Holding s) h (Ack control address pgn) here only seven room flow now = same (Holding s) h (Ack control address pgn) only (λ x y z f. cc)

    pub connection_goes : (s : InState) → Was s → (wire : Wire) → Here wire → Only wire → IsSeven wire → (room : Bool) (flow : Flow) (now : ℕ) → Goes (stepped (prepared s wire room flow) wire room flow now)
    connection_goes s h wire here only seven room flow now = step_goes (prepared s wire room flow) (roomier taken t opening (n + 1) packets s wire room flow h) wire here only seven room flow now

  -- its timer fires
  pub connection_expires : (s : InState) → Was s → (flow : Flow) (now : ℕ) → Goes (expired (prepared_to_expire s flow) flow now)
  connection_expires s h flow now =
      let it : InState = prepared_to_expire s flow in
      by_timer Goes flow now it tt (packets, connection_asks it (roomier_at_timer taken t opening (n + 1) packets s flow h) flow now)
