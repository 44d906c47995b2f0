-- A message that no port of its destination takes: its RTS is refused, and the sender has its outcome with the abort (SAE J1939-21;
-- ISO 11783-3).
use Rattle.std.proofs.Common.{◌≡◌, ℕ, ◌+◌, ◌<◌, ◌≤◌, ◌^◌, ◌%◌, ◌==◌, nat_lt, nat_le, Bool, true, false, cond, not, ◌&&◌, ◌||◌, List, [], ◌∷◌, ◌++◌, length, Option, Some, None, refl, sym, ap, ◌∙◌, subst, arith}
use Rattle.std.specs.FinMap as finmap
use Rattle.std.specs.FinMap.{get-empty}
use Rattle.std.proofs.lemmas.Bool.{eq-eqb, le-leb, leb-true, leb-false, ltb-true, and_parts}
use Rattle.bus_frame.specs.Frames.{CanFrame}
use Rattle.pgn_ids.specs.Pgn.{clean, is_pdu1}
use Rattle.pgn_ids.specs.declared.address.Address.{Address}
use Rattle.tp_wire.specs.Aborts.{connection_abort}
use Rattle.tp_wire.specs.Kinds.{is_same_kind}
use Rattle.tp_wire.specs.Reason.{reason_byte}
use Rattle.tp_wire.specs.Rows.{written}
use Rattle.tp_wire.specs.declared.constants.TheConstants.{MIN_SIZE, TP_MAX_SIZE, ETP_MAX_SIZE, ETP_MAX_WINDOW}
use Rattle.tp_wire.specs.declared.outcome.Outcome.TheVariants as outcome
use Rattle.tp_wire.specs.declared.reason.AbortReason.{AbortReason}
use Rattle.tp_wire.specs.declared.reason.AbortReason.TheVariants.{Resources}
use Rattle.tp_wire.specs.declared.wire.Kind.{Kind}
use Rattle.tp_wire.specs.declared.wire.Kind.TheVariants.{Tp, Etp}
use Rattle.tp_wire.specs.declared.wire.CmFrame.TheVariants.{Abort, EtpAbort}
use Rattle.tp_wire.specs.declared.wire.Wire.TheVariants.{Cm}
use Rattle.seg_cut.specs.Packets.{packet_count}
use Rattle.originator.specs.Link.{is_of_link, request_to_send}
use Rattle.originator.specs.Endings.{aborted}
use Rattle.originator.specs.Readers.{is_of}
use Rattle.originator.specs.declared.states.Stepped.TheVariants.{On, Over}
use Rattle.responder.specs.Answers.{abort_frame}
use Rattle.responder.specs.Window.{most_of}
use Rattle.lane_core.specs.Endings.{after_step}
use Rattle.lane_core.specs.Hear.{heard}
use Rattle.lane_core.specs.Lane.{Lane, kind_for}
use Rattle.lane_core.specs.Step.{LaneStep}
use Rattle.lane_core.specs.declared.place.UnderWay.TheVariants.{Nothing}
use Rattle.lane_core.specs.declared.probe.Standing.TheVariants.{InDoubt}
use Rattle.session_table.specs.Key.{key_cmp, session_for}
use Rattle.session_table.specs.Sessions.{state_at}
use Rattle.session_table.specs.declared.key.Key.{Key}
use Rattle.session_table.specs.declared.key.SessionKind.{SessionKind}
use Rattle.session_table.specs.declared.key.SessionKind.TheVariants as session
use Rattle.session_table.specs.Incoming.{pgn_of}
use Rattle.session_table.specs.declared.incoming.Incoming.{Incoming}
use Rattle.message_events.specs.declared.event.Event.TheVariants as event
use Rattle.station_sessions.specs.Opening.{key_of, others_than, set_for, refusal, is_tp_size, is_etp_size, rts_received, connection_opened}
use Rattle.station_sessions.specs.Receiving.{Inbound, Reception, ended_at, aborted_at}
use Rattle.station_sessions.proofs.SessionMaps.{remove_missing}
use Rattle.station_core.specs.Station.{Station, StationStep, by_session, by_lane}
use Rattle.station_core.specs.Taking.{wire_taken}
use Rattle.segment_law.specs.Segment.{Segment}
use Rattle.segment_law.specs.Quiet.{takers}
use Rattle.record_law.proofs.Maps.{state_empty}
use Rattle.record_law.proofs.Told.{clean_is}
use Rattle.exchange_law.proofs.Nodes.{IsBetween, between}
use Rattle.exchange_law.proofs.Rows.{Laws, rts_between}
use Rattle.exchange_law.proofs.Senders.{Sent, s, d, len, last, link, awaits, since, ready, going, rts, begins, lanes_with, sends, by_lane_is, not_to_all}
use Rattle.exchange_law.proofs.Receivers.{peer, key, set, hears, set_is}
use Rattle.exchange_law.proofs.Sessions.{widest}
use Rattle.drain_law.specs.Waiting.{refused_frames}
use Rattle.drain_law.proofs.Turns.{Stands, IsLowest, pumped, back}

-- the sender's lane when the message is refused
abbrev pub refused_lane : Sent → Lane
refused_lane e = record { from = (s e).0; to = (d e).0; sent = e.number; pending = e.more; under_way = Nothing; standing = InDoubt; token = e.token }

module _ (laws : Laws) (e : Sent) (none : takers e.pair.ys e.m ≡ []) (none_s : e.pair.xs.sessions ≡ finmap.empty) (none_d : e.pair.ys.sessions ≡ finmap.empty) where
  abbrev reason : ℕ
  reason = reason_byte Resources

  abbrev abort : Kind → CanFrame
  abort kind = written (Cm (connection_abort kind reason e.m.pgn)) (d e).0 (s e).0

  -- ---- the receiver refuses the RTS

  short : e.kind ≡ Tp → len e ≤ TP_MAX_SIZE
  short is = by (nat_le (len e) TP_MAX_SIZE) refl (e.is_kind ∙ is)
    where
      by : (b : Bool) → nat_le (len e) TP_MAX_SIZE ≡ b → cond b Tp Etp ≡ Tp → len e ≤ TP_MAX_SIZE
      by true t k = leb-true (len e) TP_MAX_SIZE t
      by false t k = absurd cc

  long : e.kind ≡ Etp → TP_MAX_SIZE + 1 ≤ len e
  long is = by (nat_le (len e) TP_MAX_SIZE) refl (e.is_kind ∙ is)
    where
      by : (b : Bool) → nat_le (len e) TP_MAX_SIZE ≡ b → cond b Tp Etp ≡ Etp → TP_MAX_SIZE + 1 ≤ len e
      by true t k = absurd cc
      by false t k = let l : TP_MAX_SIZE < len e = leb-false (len e) TP_MAX_SIZE t in omega (arith, l)

  tp_sized : e.kind ≡ Tp → is_tp_size (len e) (last e) ≡ true
  tp_sized is =
      let a : nat_le MIN_SIZE (len e) ≡ true = le-leb MIN_SIZE (len e) e.least in
      let b : nat_le (len e) TP_MAX_SIZE ≡ true = le-leb (len e) TP_MAX_SIZE (short is) in
      let c : (last e == packet_count (len e)) ≡ true = eq-eqb (last e) (packet_count (len e)) refl in
      rw (a, b, c) refl

  etp_sized : e.kind ≡ Etp → is_etp_size (len e) ≡ true
  etp_sized is =
      let a : nat_le (TP_MAX_SIZE + 1) (len e) ≡ true = le-leb (TP_MAX_SIZE + 1) (len e) (long is) in
      let b : nat_le (len e) ETP_MAX_SIZE ≡ true = le-leb (len e) ETP_MAX_SIZE e.most in
      rw (a, b) refl

  abbrev st0 : Station
  st0 = hears e [] e.pair.ys.sessions

  no_session : (kind : Kind) → finmap.remove e.pair.ys.sessions (key e kind) ≡ e.pair.ys.sessions
  no_session kind = ap (λ (m : Inbound). finmap.remove m (key e kind)) none_d ∙ remove_missing finmap.empty (key e kind) (get-empty key_cmp (key e kind)) ∙ sym none_d

  refuses_rts : (kind : Kind) (is_size : Bool) → is_size ≡ true → (now : ℕ)
      → by_session st0 (rts_received st0.address st0.ports kind is_size (s e) (len e) (widest kind) e.m.pgn true now st0.sessions) ≡ record { station = hears e (abort kind ∷ []) e.pair.ys.sessions; events = [] }
  refuses_rts kind is_size sized now =
      ap (λ (b : Bool). by_session st0 (by (refusal b true (set_for st0.ports e.m.pgn (len e)) (others_than st0.sessions (key e kind))) (set_for st0.ports e.m.pgn (len e)))) sized
      ∙ ap (λ (zs : List ℕ). by_session st0 (by (refusal true true zs (others_than st0.sessions (key e kind))) zs)) (set_is e [] e.pair.ys.sessions ∙ none)
      ∙ ap (λ (m : Inbound). (let r : StationStep = record { station = hears e (abort kind ∷ []) m; events = [] } in r)) (no_session kind)
    where
      by : Option AbortReason → List ℕ → Reception
      by o zs = elim o as (λ (_ : Option AbortReason). Reception) [
        | None ↦ connection_opened st0.ports (key e kind) zs kind (peer e) (len e) (widest kind) now st0.sessions
        | Some why ↦ ended_at (key e kind) st0.sessions (Some (abort_frame kind (peer e) (reason_byte why)))
      ]

  rts_refused : (kind : Kind) → e.kind ≡ kind → (now : ℕ) → wire_taken (hears e [] e.pair.ys.sessions) (Cm (request_to_send kind (len e) e.m.pgn)) (s e) (d e) true now ≡ record { station = hears e (abort kind ∷ []) e.pair.ys.sessions; events = [] }
  rts_refused Tp is now = refuses_rts Tp (is_tp_size (len e) (last e)) (tp_sized is) now
  rts_refused Etp is now = refuses_rts Etp (is_etp_size (len e)) (etp_sized is) now

  -- ---- the sender takes the abort

  its_own : (clean e.m.pgn == e.m.pgn) ≡ true
  its_own = eq-eqb (clean e.m.pgn) e.m.pgn (clean_is e.m.pgn e.pgn).1

  of_it : (kind : Kind) → e.kind ≡ kind → is_of_link (link e) kind e.m.pgn ≡ true
  of_it Tp is = (λ i. is_same_kind (is i) Tp && its_own i)
  of_it Etp is = (λ i. is_same_kind (is i) Etp && its_own i)

  abbrev says : LaneStep
  says = record { frames = []; ended = Some (record { number = e.m.number; outcome = outcome.Aborted reason }) }

  settles : after_step (going e (awaits e 1 (since e 0))) (Over (aborted reason)) ≡ (refused_lane e, says)
  settles = rw (not_to_all e) refl

  no_aborted : (kind : SessionKind) → aborted_at (key_of (d e) kind) e.m.pgn e.pair.xs.sessions ≡ e.pair.xs.sessions
  no_aborted kind = ap (λ (m : Inbound). aborted_at (key_of (d e) kind) e.m.pgn m) none_s ∙ ap by (state_empty (key_of (d e) kind)) ∙ sym none_s
    where
      by : Option (List ℕ × Incoming) → Inbound
      by o = elim o as (λ (_ : Option (List ℕ × Incoming)). Inbound) [ None ↦ finmap.empty | Some v ↦ cond (clean (pgn_of v.1) == clean e.m.pgn) (finmap.remove finmap.empty (key_of (d e) kind)) finmap.empty ]

  abbrev waits : ℕ → Lane
  waits now = going e (awaits e 1 (since e now))

  abort_taken : (kind : Kind) → e.kind ≡ kind → (now : ℕ) → wire_taken (sends e [] (lanes_with e (waits now))) (Cm (connection_abort kind reason e.m.pgn)) (d e) (s e) true now
      ≡ record { station = sends e [] (lanes_with e (refused_lane e)); events = event.Outcome (s e) (d e) e.m.number (outcome.Aborted reason) ∷ [] }
  abort_taken Tp is now =
      ap (λ (m : Inbound). by_lane (record (sends e [] (lanes_with e (waits now))) { sessions = m }) (d e) (λ l. heard l (Cm (Abort reason e.m.pgn)) now)) (no_aborted session.Tp)
      ∙ by_lane_is e [] (waits now) (refused_lane e) (λ l. heard l (Cm (Abort reason e.m.pgn)) now) says
      (ap (λ (b : Bool). after_step (waits now) (cond b (Over (aborted reason)) (On (awaits e 1 (since e now))))) (of_it Tp is) ∙ settles)
  abort_taken Etp is now =
      ap (λ (m : Inbound). by_lane (record (sends e [] (lanes_with e (waits now))) { sessions = m }) (d e) (λ l. heard l (Cm (EtpAbort reason e.m.pgn)) now)) (no_aborted session.Etp)
      ∙ by_lane_is e [] (waits now) (refused_lane e) (λ l. heard l (Cm (EtpAbort reason e.m.pgn)) now) says
      (ap (λ (b : Bool). after_step (waits now) (cond b (Over (aborted reason)) (On (awaits e 1 (since e now))))) (of_it Etp is) ∙ settles)

  pgn_fits : e.m.pgn < 2 ^ 18
  pgn_fits = ltb-true e.m.pgn (2 ^ 18) (and_parts (nat_lt e.m.pgn (2 ^ 18)) (not (is_pdu1 e.m.pgn) || e.m.pgn % 2 ^ 8 == 0) e.pgn).0

  abort_between : (kind : Kind) → IsBetween (d e) (s e) (Cm (connection_abort kind reason e.m.pgn)) (abort kind)
  abort_between Tp = between laws.gives laws.reads (d e) (s e) e.pair.own_d e.pair.own_s (Cm (Abort reason e.m.pgn)) (record { numbers = tt; widths = pgn_fits; source = e.pair.own_d; destination = e.pair.own_s }) refl refl (omega arith)
  abort_between Etp = between laws.gives laws.reads (d e) (s e) e.pair.own_d e.pair.own_s (Cm (EtpAbort reason e.m.pgn)) (record { numbers = tt; widths = pgn_fits; source = e.pair.own_d; destination = e.pair.own_s }) refl refl (omega arith)

  -- ---- both turns

  module _ (L now : ℕ) (begin : Segment) (low : IsLowest e.pair L now begin) where
    pub record Refused : Type 0 where
      pub stands : Stands e.pair L now begin (sends e [] (lanes_with e (refused_lane e))) (hears e [] e.pair.ys.sessions) 2 (refused_frames e.m (s e) (d e)) (event.Outcome (s e) (d e) e.m.number (outcome.Aborted 2) ∷ [])

    pub refuses : Stands e.pair L now begin (sends e [] (lanes_with e (ready e))) (hears e [] e.pair.ys.sessions) 0 [] [] → L + 2 < 2 ^ 64 → Refused
    refuses stands places =
        let asked : Stands e.pair L now begin (sends e [] (lanes_with e (waits now))) (hears e (abort e.kind ∷ []) e.pair.ys.sessions) (0 + 1) ([] ++ rts e ∷ []) ([] ++ []) =
        pumped e.pair L now begin (Cm (request_to_send e.kind (len e) e.m.pgn)) (rts e) (rts_between laws e e.kind) low [] (abort e.kind ∷ []) (ready e) (waits now) e.pair.ys.sessions e.pair.ys.sessions [] (omega arith) refl (begins e now) (rts_refused e.kind refl now) 0 [] [] stands (omega (arith, places)) in
        let answered : Stands e.pair L now begin (sends e [] (lanes_with e (refused_lane e))) (hears e [] e.pair.ys.sessions) (0 + 1 + 1) (([] ++ rts e ∷ []) ++ abort e.kind ∷ []) (([] ++ []) ++ event.Outcome (s e) (d e) e.m.number (outcome.Aborted 2) ∷ []) =
        back e.pair L now begin (Cm (connection_abort e.kind reason e.m.pgn)) (abort e.kind) (abort_between e.kind) [] (lanes_with e (waits now)) (lanes_with e (refused_lane e)) e.pair.ys.sessions (event.Outcome (s e) (d e) e.m.number (outcome.Aborted 2) ∷ []) (abort_taken e.kind refl now) (0 + 1) ([] ++ rts e ∷ []) ([] ++ []) asked (omega (arith, places)) in
        record { stands = subst (λ (kind : Kind). Stands e.pair L now begin (sends e [] (lanes_with e (refused_lane e))) (hears e [] e.pair.ys.sessions) 2 (written (Cm (request_to_send kind (len e) e.m.pgn)) (s e).0 (d e).0 ∷ abort kind ∷ []) (event.Outcome (s e) (d e) e.m.number (outcome.Aborted 2) ∷ [])) (sym e.is_kind) answered }
