-- The receiver of a connection: its session opens at the RTS, in ETP a DPO announces a window, it takes each packet in its turn, asks
-- for the next window at the end of one, and has the whole message at the last packet (SAE J1939-21; ISO 11783-3).
use Rattle.std.proofs.Common.{◌≡◌, ℕ, ◌+◌, ◌-◌, ◌<◌, ◌≤◌, ◌==◌, nat_lt, nat_le, min, Bool, true, false, cond, ◌&&◌, List, [], ◌∷◌, Option, Some, None, refl, sym, ap, ◌∙◌, subst, arith}
use Rattle.std.specs.FinMap as finmap
use Rattle.std.proofs.lemmas.Bool.{eq-eqb, ne_eqb, lt-ltb, le-ltb, le-leb, leb-true, leb-false}
use Rattle.bus_frame.specs.Frames.{CanFrame}
use Rattle.pgn_ids.specs.Pgn.{clean}
use Rattle.tp_wire.specs.Kinds.{is_same_kind}
use Rattle.tp_wire.specs.Reason.{reason_byte}
use Rattle.tp_wire.specs.Rows.{written}
use Rattle.tp_wire.specs.declared.constants.TheConstants.{MIN_SIZE, TP_MAX_SIZE, ETP_MAX_SIZE}
use Rattle.tp_wire.specs.declared.reason.AbortReason.{AbortReason}
use Rattle.tp_wire.specs.declared.wire.Kind.{Kind}
use Rattle.tp_wire.specs.declared.wire.Kind.TheVariants.{Tp, Etp}
use Rattle.tp_wire.specs.declared.wire.CmFrame.TheVariants.{EtpDpo}
use Rattle.tp_wire.specs.declared.wire.Wire.{Wire}
use Rattle.tp_wire.specs.declared.wire.Wire.TheVariants.{Cm}
use Rattle.seg_cut.specs.Packets.{packet_count, packet}
use Rattle.seg_cut.specs.Join.{Join, IsFrontOf, joined, is_complete, wants_last, with_room}
use Rattle.tick_timers.specs.Timers.{Timer}
use Rattle.tick_timers.specs.declared.durations.TheConstants.{T2}
use Rattle.originator.specs.Link.{request_to_send}
use Rattle.originator.specs.Pump.{sequence_of}
use Rattle.responder.specs.Answers.{abort_frame, end_frame}
use Rattle.responder.specs.Unfinished.{Unfinished, begun, finished}
use Rattle.responder.specs.Window.{clear_to_send}
use Rattle.responder.specs.States as states
use Rattle.responder.specs.States.{announced_at_first}
use Rattle.responder.specs.Asking.{asking, asked, asks}
use Rattle.responder.specs.Room.{first_join, grants_next, needed, prepared}
use Rattle.responder.specs.Steps.{stepped}
use Rattle.responder.specs.AwaitPacket.{accepted, on_dpo, on_packet}
use Rattle.responder.specs.declared.flow.Flow.{Flow}
use Rattle.responder.specs.declared.flow.Flow.TheVariants.{Open}
use Rattle.responder.specs.declared.in_state.InState.{InState}
use Rattle.responder.specs.declared.in_state.InState.TheVariants.{AwaitPacket}
use Rattle.responder.specs.declared.received.Received.{Received}
use Rattle.responder.specs.declared.received.Received.TheVariants.{On, Complete}
use Rattle.session_table.specs.declared.key.Key.{Key}
use Rattle.session_table.specs.declared.incoming.Incoming.{Incoming}
use Rattle.session_table.specs.declared.incoming.Incoming.TheVariants as incoming
use Rattle.station_sessions.specs.Given.{given_to}
use Rattle.station_sessions.specs.Receiving.{Inbound, connection_settled, Reception}
use Rattle.station_sessions.proofs.SessionMaps.{insert_again}
use Rattle.station_sessions.specs.Opening.{others_than, set_for, is_tp_size, is_etp_size, refusal, connection_opened, rts_received}
use Rattle.station_sessions.specs.Receiving.{goes_on_at, ended_at}
use Rattle.station_core.specs.Station.{Station, StationStep, by_session}
use Rattle.station_core.specs.Taking.{in_session, wire_taken}
use Rattle.segment_law.specs.Quiet.{given_by}
use Rattle.record_law.proofs.Told.{clean_is}
use Rattle.exchange_law.proofs.Senders.{Sent, s, d, len, last, end_of}
use Rattle.exchange_law.proofs.Receivers.{Welcome, peer, key, set, hears, sessions_with, key_is, set_is, flow_is, admits, stepped_as}
use Rattle.exchange_law.proofs.Rows.{Laws, packet_wire}

-- the most packets of a window
abbrev pub widest : Kind → ℕ
widest Tp = 16
widest Etp = 64

module _ (e : Sent) where
  -- how many packets are granted from the next one on
  abbrev pub grant : Kind → ℕ → ℕ
  grant kind next = min (widest kind) (last e + 1 - next)

  abbrev pub cts : Kind → ℕ → CanFrame
  cts kind next = written (Cm (clear_to_send kind (grant kind next) next e.m.pgn)) (d e).0 (s e).0

  abbrev pub ending : Kind → CanFrame
  ending kind = written (Cm (end_of kind (len e) e.m.pgn)) (d e).0 (s e).0

  -- packets up to u are granted, and those from the offset on up to `until` are announced
  abbrev coming : Kind → Join → (offset : ℕ) → Unfinished
  coming kind join offset = record { kind = kind; peer = peer e; join = join; most = widest kind; offset = offset }

  abbrev awaiting : Kind → Join → (u offset until : ℕ) → Timer → states.AwaitPacket
  awaiting kind join u offset until timer = record { message = coming kind join offset; granted = u; until = until; timer = timer }

  abbrev waits_at : Kind → Join → (u offset until : ℕ) → Timer → Incoming
  waits_at kind join u offset until timer = incoming.Connection (AwaitPacket (awaiting kind join u offset until timer))

  -- the window from packet k to packet u is announced: in TP with its CTS, in ETP once its DPO has come
  abbrev IsAnnounced : Kind → Bool → (k u offset until : ℕ) → Type 0
  IsAnnounced Tp announced k u offset until = (offset ≡ 0) × (until ≡ u)
  IsAnnounced Etp true k u offset until = (offset ≡ k - 1) × (until ≡ u)
  IsAnnounced Etp false k u offset until = Unit {0}

  -- the packets before p have come, and those up to u are granted
  pub record IsAt (kind : Kind) (announced : Bool) (k u p : ℕ) (x : Incoming) : Type 0 where
    pub join : Join
    pub offset : ℕ
    pub until : ℕ
    pub timer : Timer
    pub is : x ≡ waits_at kind join u offset until timer
    pub front : IsFrontOf e.m.bytes join
    pub next : join.next ≡ p
    pub window_is : IsAnnounced kind announced k u offset until

  -- in TP a window needs no DPO
  pub tp_announced : (k u p : ℕ) (x : Incoming) → IsAt Tp false k u p x → IsAt Tp true k u p x
  tp_announced k u p x a = record { join = a.join; offset = a.offset; until = a.until; timer = a.timer; is = a.is; front = a.front; next = a.next; window_is = a.window_is }

  -- a step that goes on, and what it leaves
  pub record Goes (kind : Kind) (queue : List CanFrame) (announced : Bool) (k u p : ℕ) (step : StationStep) : Type 0 where
    pub state : Incoming
    pub at : IsAt kind announced k u p state
    pub is : step ≡ record { station = hears e queue (sessions_with e kind state); events = [] }

  -- a step that has the whole message
  pub record Gives (kind : Kind) (step : StationStep) : Type 0 where
    pub sessions : Inbound
    pub is : step ≡ record { station = hears e (ending kind ∷ []) sessions; events = given_by e.pair.ys e.m (s e) (d e) }

  again : (kind : Kind) (x y : Incoming) → finmap.insert (sessions_with e kind x) (key e kind) (Some (set e, y)) ≡ sessions_with e kind y
  again kind x y = insert_again e.pair.ys.sessions (key e kind) (Some (set e, x)) (Some (set e, y))

  goes_on_in : (kind : Kind) (queue : List CanFrame) (x y : Incoming)
      → ◌≡◌ {A = StationStep} (record { station = hears e queue (finmap.insert (sessions_with e kind x) (key e kind) (Some (set e, y))); events = [] }) (record { station = hears e queue (sessions_with e kind y); events = [] })
  goes_on_in kind queue x y = ap (λ (z : Inbound). (let r : StationStep = record { station = hears e queue z; events = [] } in r)) (again kind x y)

  module _ (laws : Laws) (h : Welcome e) where
    short : e.kind ≡ Tp → len e ≤ TP_MAX_SIZE
    short is = by (nat_le (len e) TP_MAX_SIZE) refl (e.is_kind ∙ is)
      where
        by : (b : Bool) → nat_le (len e) TP_MAX_SIZE ≡ b → cond b Tp Etp ≡ Tp → len e ≤ TP_MAX_SIZE
        by true t k = leb-true (len e) TP_MAX_SIZE t
        by false t k = absurd cc

    long : e.kind ≡ Etp → TP_MAX_SIZE + 1 ≤ len e
    long is = by (nat_le (len e) TP_MAX_SIZE) refl (e.is_kind ∙ is)
      where
        by : (b : Bool) → nat_le (len e) TP_MAX_SIZE ≡ b → cond b Tp Etp ≡ Etp → TP_MAX_SIZE + 1 ≤ len e
        by true t k = absurd cc
        by false t k = let l : TP_MAX_SIZE < len e = leb-false (len e) TP_MAX_SIZE t in omega (arith, l)

    tp_sized : e.kind ≡ Tp → is_tp_size (len e) (last e) ≡ true
    tp_sized is =
        let a : nat_le MIN_SIZE (len e) ≡ true = le-leb MIN_SIZE (len e) e.least in
        let b : nat_le (len e) TP_MAX_SIZE ≡ true = le-leb (len e) TP_MAX_SIZE (short is) in
        let c : (last e == packet_count (len e)) ≡ true = eq-eqb (last e) (packet_count (len e)) refl in
        rw (a, b, c) refl

    etp_sized : e.kind ≡ Etp → is_etp_size (len e) ≡ true
    etp_sized is =
        let a : nat_le (TP_MAX_SIZE + 1) (len e) ≡ true = le-leb (TP_MAX_SIZE + 1) (len e) (long is) in
        let b : nat_le (len e) ETP_MAX_SIZE ≡ true = le-leb (len e) ETP_MAX_SIZE e.most in
        rw (a, b) refl

    -- ---- the RTS

    abbrev st0 : Station
    st0 = hears e [] e.pair.ys.sessions

    abbrev first : Kind → Unfinished
    first kind = begun kind (peer e) (widest kind) (first_join kind (len e) Open)

    begins : (kind : Kind) → e.kind ≡ kind → (is_size : Bool) → is_size ≡ true → (now : ℕ)
        → by_session st0 (rts_received st0.address st0.ports kind is_size (s e) (len e) (widest kind) e.m.pgn true now st0.sessions)
        ≡ by_session st0 (goes_on_at (key e kind) (set e) st0.sessions (incoming.Connection (asking (first kind) Open now)) (Some (asked (first kind) Open)))
    begins kind is is_size sized now =
        ap (λ (b : Bool). by_session st0 (by (refusal b true (set_for st0.ports e.m.pgn (len e)) (others_than st0.sessions (key e kind))) (set_for st0.ports e.m.pgn (len e)))) sized
        ∙ ap (λ (zs : List ℕ). by_session st0 (by (refusal true true zs (others_than st0.sessions (key e kind))) zs)) (set_is e [] e.pair.ys.sessions)
        ∙ ap (λ (o : Option AbortReason). by_session st0 (by o (set e))) (admits e h kind is)
        ∙ ap (λ (flow : Flow). by_session st0 (goes_on_at (key e kind) (set e) st0.sessions (incoming.Connection (asking (begun kind (peer e) (widest kind) (first_join kind (len e) flow)) flow now)) (Some (asked (begun kind (peer e) (widest kind) (first_join kind (len e) flow)) flow)))) (flow_is e h)
      where
        by : Option AbortReason → List ℕ → Reception
        by o zs = elim o as (λ (_ : Option AbortReason). Reception) [
          | None ↦ connection_opened st0.ports (key e kind) zs kind (peer e) (len e) (widest kind) now st0.sessions
          | Some reason ↦ ended_at (key e kind) st0.sessions (Some (abort_frame kind (peer e) (reason_byte reason)))
        ]

    pub opens : (kind : Kind) → e.kind ≡ kind → (now : ℕ) → Goes kind (cts kind 1 ∷ []) false 1 (1 - 1 + grant kind 1) 1 (wire_taken (hears e [] e.pair.ys.sessions) (Cm (request_to_send kind (len e) e.m.pgn)) (s e) (d e) true now)
    opens Tp is now = record {
      state = waits_at Tp (first_join Tp (len e) Open) (1 - 1 + grant Tp 1) 0 (1 - 1 + grant Tp 1) (record { started = now; ticks = T2 });
      at = record { join = first_join Tp (len e) Open; offset = 0; until = 1 - 1 + grant Tp 1; timer = record { started = now; ticks = T2 }; is = refl; front = record { same_size = refl; from_packet = omega arith; front = refl }; next = refl; window_is = (refl, refl) };
      is = begins Tp is (is_tp_size (len e) (last e)) (tp_sized is) now;
    }
    opens Etp is now = record {
      state = waits_at Etp (first_join Etp (len e) Open) (1 - 1 + grant Etp 1) 0 (1 - 1) (record { started = now; ticks = T2 });
      at = record { join = first_join Etp (len e) Open; offset = 0; until = 1 - 1; timer = record { started = now; ticks = T2 }; is = refl; front = record { same_size = refl; from_packet = omega arith; front = refl }; next = refl; window_is = tt };
      is = begins Etp is (is_etp_size (len e)) (etp_sized is) now;
    }

    -- ---- the DPO of a window

    pub announces : (k u : ℕ) (x : Incoming) → IsAt Etp false k u k x → (now : ℕ) → 1 ≤ k → k ≤ u
        → Goes Etp [] true k u k (wire_taken (hears e [] (sessions_with e Etp x)) (Cm (EtpDpo (u + 1 - k) (k - 1) e.m.pgn)) (s e) (d e) true now)
    announces k u x a now from_first granted = record {
      state = state;
      at = record { join = a.join; offset = k - 1; until = k - 1 + (u + 1 - k); timer = a.timer; is = refl; front = a.front; next = a.next; window_is = (refl, omega (arith, from_first, granted)) };
      is =
          ap (λ (y : Incoming). in_session (hears e [] (sessions_with e Etp y)) (key e Etp) frame true now) a.is
          ∙ stepped_as e h Etp (AwaitPacket before) frame now
          ∙ ap (λ (r : Received). by_session (hears e [] (sessions_with e Etp x0)) (connection_settled e.pair.ys.ports.station (key e Etp) (set e) true (sessions_with e Etp x0) r)) does
          ∙ goes_on_in Etp [] x0 state;
    }
      where
        before : states.AwaitPacket
        before = awaiting Etp a.join u a.offset a.until a.timer

        x0 : Incoming
        x0 = incoming.Connection (AwaitPacket before)

        state : Incoming
        state = waits_at Etp a.join u (k - 1) (k - 1 + (u + 1 - k)) a.timer

        frame : Wire
        frame = Cm (EtpDpo (u + 1 - k) (k - 1) e.m.pgn)

        does : on_dpo (awaiting Etp a.join u a.offset a.until a.timer) (u + 1 - k) (k - 1) e.m.pgn ≡ On (AwaitPacket (awaiting Etp a.join u (k - 1) (k - 1 + (u + 1 - k)) a.timer)) None
        does =
            let same : (clean e.m.pgn == clean e.m.pgn) ≡ true = eq-eqb (clean e.m.pgn) (clean e.m.pgn) refl in
            let some : (u + 1 - k == 0) ≡ false = ne_eqb (u + 1 - k) 0 (λ q. absurd (omega (arith, q, granted))) in
            let not_past : nat_lt (a.join.next - 1) (k - 1) ≡ false = le-ltb (a.join.next - 1) (k - 1) (omega (arith, a.next)) in
            let fits : nat_lt u (k - 1 + (u + 1 - k)) ≡ false = le-ltb u (k - 1 + (u + 1 - k)) (omega (arith, from_first, granted)) in
            let reaches : nat_le a.join.next (k - 1 + (u + 1 - k)) ≡ true = le-leb a.join.next (k - 1 + (u + 1 - k)) (omega (arith, a.next, from_first, granted)) in
            rw (same, some, not_past, fits, reaches) refl

    -- ---- a packet

    abbrev step_of : Kind → (k p : ℕ) → Incoming → (now : ℕ) → StationStep
    step_of kind k p x now = wire_taken (hears e [] (sessions_with e kind x)) (packet_wire laws e kind k p) (s e) (d e) true now

    module _ (k u p : ℕ) (from_first : 1 ≤ k) (from_window : k ≤ p) (granted : p ≤ u) (within : u ≤ last e) (kind : Kind) (is_kind : e.kind ≡ kind) (x : Incoming) (a : IsAt kind true k u p x) (now : ℕ) where
      abbrev bytes : List ℕ
      bytes = packet e.m.bytes p

      abbrev frame : Wire
      frame = packet_wire laws e kind k p

      abbrev before : states.AwaitPacket
      before = awaiting kind a.join u a.offset a.until a.timer

      abbrev x0 : Incoming
      x0 = incoming.Connection (AwaitPacket before)

      -- with the room that the step needs
      room_join : Bool → Join
      room_join b = cond b (with_room a.join (needed before frame true Open)) a.join

      abbrev more_room : Bool
      more_room = is_same_kind kind Etp && grants_next before frame true Open

      abbrev join : Join
      join = room_join more_room

      abbrev waiting : states.AwaitPacket
      waiting = awaiting kind join u a.offset a.until a.timer

      prepared_is : prepared (AwaitPacket before) frame true Open ≡ AwaitPacket waiting
      unfolding room_join
      prepared_is = by more_room
        where
          by : (b : Bool) → AwaitPacket (cond b (record before { message = coming kind (with_room a.join (needed before frame true Open)) a.offset }) before) ≡ AwaitPacket (awaiting kind (room_join b) u a.offset a.until a.timer)
          by true = refl
          by false = refl

      front_by : (b : Bool) → IsFrontOf e.m.bytes (room_join b)
      unfolding room_join
      front_by true = record { same_size = a.front.same_size; from_packet = a.front.from_packet; front = a.front.front }
      front_by false = a.front

      next_by : (b : Bool) → (room_join b).next ≡ p
      unfolding room_join
      next_by true = a.next
      next_by false = a.next

      front : IsFrontOf e.m.bytes join
      front = front_by more_room

      next : join.next ≡ p
      next = next_by more_room

      size_is : join.size ≡ len e
      size_is = front.same_size

      abbrev next_join : Join
      next_join = joined join bytes

      abbrev after : Unfinished
      after = coming kind next_join a.offset

      -- the window is announced up to u, and the number of the packet is p
      until_is : a.until ≡ u
      until_is = by kind a.window_is
        where
          by : (kind : Kind) → IsAnnounced kind true k u a.offset a.until → a.until ≡ u
          by Tp w = w.1
          by Etp w = w.1

      number_is : a.offset + sequence_of kind k p ≡ p
      number_is = by kind a.window_is
        where
          by : (kind : Kind) → IsAnnounced kind true k u a.offset a.until → a.offset + sequence_of kind k p ≡ p
          by Tp w = let e : a.offset + p ≡ p = omega (arith, w.0) in e
          by Etp w = omega (arith, w.0, from_first, from_window)

      of_kind : is_same_kind kind kind ≡ true
      of_kind = by kind
        where
          by : (kind : Kind) → is_same_kind kind kind ≡ true
          by Tp = refl
          by Etp = refl

      not_before : nat_lt p join.next ≡ false
      not_before = le-ltb p join.next (omega (arith, next))

      not_after : nat_lt join.next p ≡ false
      not_after = le-ltb join.next p (omega (arith, next))

      is_announced : nat_lt a.until join.next ≡ false
      is_announced = le-ltb a.until join.next (omega (arith, next, until_is, granted))

      front_next : IsFrontOf e.m.bytes next_join
      front_next =
          let fits : join.next ≤ packet_count join.size = rw (next, size_is) (omega (arith, granted, within)) in
          subst (λ (n : ℕ). IsFrontOf e.m.bytes (joined join (packet e.m.bytes n))) next (laws.goes_on e.m.bytes join front fits)

      last_is : (b : Bool) → (p == last e) ≡ b → wants_last join ≡ b
      last_is b t = (λ i. next i == packet_count (size_is i)) ∙ t

      abbrev settles : Incoming → Received → StationStep
      settles y r = by_session (hears e [] (sessions_with e kind y)) (connection_settled e.pair.ys.ports.station (key e kind) (set e) true (sessions_with e kind y) r)

      -- what a step answers is what the station does
      goes_with : (answer : Received) → on_packet waiting p bytes true Open now ≡ answer → step_of kind k p x now ≡ settles x answer
      goes_with answer does =
          ap (λ (q : Key). in_session (hears e [] (sessions_with e kind x)) q frame true now) (key_is e kind)
          ∙ ap (λ (y : Incoming). in_session (hears e [] (sessions_with e kind y)) (key e kind) frame true now) a.is
          ∙ stepped_as e h kind (AwaitPacket before) frame now
          ∙ ap (λ (y : InState). settles x0 (stepped y frame true Open now)) prepared_is
          ∙ ap (λ (b : Bool). settles x0 (cond b (on_packet waiting (a.offset + sequence_of kind k p) bytes true Open now) (On (AwaitPacket waiting) None))) of_kind
          ∙ ap (λ (n : ℕ). settles x0 (on_packet waiting n bytes true Open now)) number_is
          ∙ ap (λ (r : Received). settles x0 r) does
          ∙ ap (λ (y : Incoming). settles y answer) (sym a.is)

      -- in the middle of a window
      pub mid : p < u → Goes kind [] true k u (p + 1) (step_of kind k p x now)
      mid more =
          let not_last : wants_last join ≡ false = last_is false (ne_eqb p (last e) (λ q. absurd (omega (arith, q, more, within)))) in
          let inside : nat_lt p a.until ≡ true = lt-ltb p a.until (omega (arith, more, until_is)) in
          let does : on_packet waiting p bytes true Open now ≡ On (AwaitPacket (accepted waiting bytes now)) None = rw (not_before, not_after, is_announced, not_last, inside) refl in
          let state : Incoming = incoming.Connection (AwaitPacket (accepted waiting bytes now)) in
          record {
            state = state;
            at = record { join = next_join; offset = a.offset; until = a.until; timer = (accepted waiting bytes now).timer; is = refl; front = front_next; next = ap (λ n. n + 1) next; window_is = a.window_is };
            is = goes_with (On (AwaitPacket (accepted waiting bytes now)) None) does ∙ goes_on_in kind [] x state;
          }

      -- the last of a window
      pub next_window : p ≡ u → u < last e → Goes kind (cts kind (p + 1) ∷ []) false (p + 1) (p + 1 - 1 + grant kind (p + 1)) (p + 1) (step_of kind k p x now)
      next_window end more =
          let not_last : wants_last join ≡ false = last_is false (ne_eqb p (last e) (λ q. absurd (omega (arith, q, more, end)))) in
          let outside : nat_lt p a.until ≡ false = le-ltb p a.until (omega (arith, end, until_is)) in
          let does : on_packet waiting p bytes true Open now ≡ asks after Open now = rw (not_before, not_after, is_announced, not_last, outside) refl in
          let timer : Timer = record { started = now; ticks = T2 } in
          let until : ℕ = announced_at_first kind (p + 1) (p + 1 - 1 + grant kind (p + 1)) in
          let state : Incoming = waits_at kind next_join (p + 1 - 1 + grant kind (p + 1)) a.offset until timer in
          let answers : asks after Open now ≡ On (AwaitPacket (awaiting kind next_join (p + 1 - 1 + grant kind (p + 1)) a.offset until timer)) (Some (cts kind (p + 1))) =
          (λ i. (let g : ℕ = min (widest kind) (packet_count (size_is i) + 1 - (next i + 1)) in
          On (AwaitPacket (awaiting kind next_join (next i + 1 - 1 + g) a.offset (announced_at_first kind (next i + 1) (next i + 1 - 1 + g)) timer)) (Some (written (Cm (clear_to_send kind g (next i + 1) e.m.pgn)) (d e).0 (s e).0)))) in
          record {
            state = state;
            at = record { join = next_join; offset = a.offset; until = until; timer = timer; is = refl; front = front_next; next = ap (λ n. n + 1) next; window_is = first_of kind a.window_is };
            is = goes_with (On (AwaitPacket (awaiting kind next_join (p + 1 - 1 + grant kind (p + 1)) a.offset until timer)) (Some (cts kind (p + 1)))) (does ∙ answers)
                ∙ goes_on_in kind (cts kind (p + 1) ∷ []) x state;
          }
        where
          first_of : (kind : Kind) → IsAnnounced kind true k u a.offset a.until
              → IsAnnounced kind false (p + 1) (p + 1 - 1 + grant kind (p + 1)) a.offset (announced_at_first kind (p + 1) (p + 1 - 1 + grant kind (p + 1)))
          first_of Tp w = (w.0, refl)
          first_of Etp w = tt

      -- the last of the message
      pub ends : p ≡ u → u ≡ last e → Gives kind (step_of kind k p x now)
      ends end all =
          let is_last : wants_last join ≡ true = last_is true (eq-eqb p (last e) (end ∙ all)) in
          let does : on_packet waiting p bytes true Open now ≡ Complete (finished after) = rw (not_before, not_after, is_announced, is_last) refl in
          let complete : is_complete next_join ≡ true = eq-eqb (join.next + 1) (packet_count join.size + 1) (let q : join.next ≡ packet_count join.size = next ∙ end ∙ all ∙ ap packet_count (sym size_is) in ap (λ n. n + 1) q) in
          let whole : next_join.bytes ≡ e.m.bytes = laws.ends e.m.bytes next_join front_next complete in
          record {
            sessions = finmap.remove (sessions_with e kind x) (key e kind);
            is = goes_with (Complete (finished after)) does
                ∙ (λ i. record {
                  station = hears e (end_is kind i ∷ []) (finmap.remove (sessions_with e kind x) (key e kind));
                  events = given_to (h.ports i) (set e) (record { from = s e; to = d e; pgn = (clean_is e.m.pgn e.pgn).1 i; bytes = whole i });
                });
          }
        where
          end_is : (kind : Kind) → end_frame kind (peer e) join.size ≡ ending kind
          end_is Tp = ap (λ n. end_frame Tp (peer e) n) size_is
          end_is Etp = ap (λ n. end_frame Etp (peer e) n) size_is
