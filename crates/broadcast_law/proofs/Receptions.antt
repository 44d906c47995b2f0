-- What a frame or a timer makes of the incoming sessions of a station: each stays that of its key, and is as it was or ends,
-- but for the one that makes the step.
use Rattle.std.proofs.Common.{◌≡◌, ◌⊎◌, inl, inr, ℕ, ◌<◌, ◌==◌, nat_lt, Bool, true, false, cond, not, List, [], length, Option, Some, None, refl, sym, ap, ◌∙◌, arith, ne_eqb}
use Rattle.std.proofs.lemmas.Bool.{and_left, and_right}
use Rattle.std.specs.Option.{option_map}
use Rattle.std.specs.FinMap as finmap
use Rattle.bus_frame.specs.Frames.{CanFrame}
use Rattle.pgn_ids.specs.Pgn.{clean}
use Rattle.pgn_ids.specs.declared.address.Address.{Address}
use Rattle.tp_wire.specs.declared.wire.Kind.{Kind}
use Rattle.tp_wire.specs.declared.wire.Kind.TheVariants.{Tp, Etp}
use Rattle.tp_wire.specs.declared.wire.Wire.{Wire}
use Rattle.tp_wire.specs.declared.wire.Wire.TheVariants.{Cm, Packet, Request, Ack}
use Rattle.seg_cut.specs.Join.{wants_last}
use Rattle.responder.specs.Readers.{unfinished_of}
use Rattle.responder.specs.Steps.{stepped, expired}
use Rattle.responder.specs.Room.{prepared, prepared_to_expire}
use Rattle.responder.specs.declared.flow.Flow.{Flow}
use Rattle.responder.specs.declared.in_state.InState.{InState}
use Rattle.responder.specs.declared.received.Received.{Received}
use Rattle.responder.specs.declared.received.Received.TheVariants.{On, Complete, Ended}
use Rattle.bam_session.specs.States as bam
use Rattle.bam_session.specs.Receiving as bam-steps
use Rattle.port_table.specs.Ports.{Ports}
use Rattle.port_table.specs.PortSet.{without_number}
use Rattle.session_table.specs.declared.key.Key.{Key}
use Rattle.session_table.specs.declared.key.SessionKind.TheVariants as session
use Rattle.session_table.specs.Key.{session_for}
use Rattle.session_table.specs.declared.incoming.Incoming.{Incoming}
use Rattle.session_table.specs.declared.incoming.Incoming.TheVariants as incoming
use Rattle.session_table.specs.Incoming.{pgn_of}
use Rattle.session_table.specs.Sessions.{state_at}
use Rattle.station_sessions.specs.Steps.{closing_frame}
use Rattle.station_sessions.specs.Receiving.{Inbound, Reception, unheard, broadcast_settled, connection_settled, session_stepped, session_fired, flow_at, received_by, received, fired_by, fired_at, aborted_at, unbound_by, unbound_at}
use Rattle.segment_law.specs.Told.{is_lane}
use Rattle.record_law.proofs.Lists.{Each}
use Rattle.record_law.proofs.Maps.{OfEach, StaysOrEnds, session_at, key_cases, state_put, put_stays, dropped_stays, of_each_put, of_each_dropped}
use Rattle.responder.proofs.Rows.{StaysOf, step_stays, expired_stays, prepared_stays, prepared_fire_stays}
use Rattle.record_law.proofs.Tests.{either}
use Rattle.broadcast_law.proofs.Carried.{all}
use Rattle.broadcast_law.proofs.Ports.{Distinct, distinct_without, IsOfPort, IsUntold, gives_to, given_of_port, given_untold, IsOneGiving, station_told, one_of_none, given_one}
use Rattle.broadcast_law.proofs.SessionSteps.{FitsPeer, SaidBack, said_peer, said_end, Fits, connection_step, connection_expired, peer_prepared, peer_prepared_fire}

-- the key of the broadcasts of s
abbrev pub key_all : Address → Key
key_all s = record { source = s; kind = session.Broadcast }

-- a state is that of its key
abbrev pub IsStateOf : ℕ → Key → Incoming → Type 0
IsStateOf a key (incoming.Broadcast b) = (b.from ≡ key.source.0) × (key.kind ≡ session.Broadcast)
IsStateOf a key (incoming.Connection t) = FitsPeer a key.source.0 (unfinished_of t).peer × (key.kind ≡ session_for (unfinished_of t).kind)

-- a session of station a: of another node, for ports that are told apart
pub record IsSessionOf (a : ℕ) (key : Key) (v : List ℕ × Incoming) : Type 0 where
  pub small : key.source.0 < 254
  pub foreign : key.source.0 ≡ a → ⊥
  pub distinct : Distinct v.0
  pub state : IsStateOf a key v.1

-- what is promised of a step of the session of a key
pub record Settles (a : Address) (key : Key) (before : Inbound) (r : Reception) : Type 0 where
  pub sessions : OfEach (IsSessionOf a.0) r.sessions
  pub frame : (to : ℕ) × (to < 254) × SaidBack a.0 to r.frame
  pub ports : Each (IsOfPort a) r.events
  pub untold : (s : Address) → (key_all s ≡ key → ⊥) → Each (IsUntold s) r.events
  pub one : (x s : Address) → IsOneGiving (station_told x s r.events)
  pub stays : (q : Key) → (q ≡ key → ⊥) → StaysOrEnds (session_at r.sessions q) (session_at before q)

settles_none : (a : Address) (key : Key) (m : Inbound) → OfEach (IsSessionOf a.0) m → Settles a key m (unheard m)
settles_none a key m each = record { sessions = each; frame = (0, omega arith, tt); ports = tt; untold = λ s n. tt; one = λ x s. one_of_none [] refl; stays = λ q n. inr refl }

module _ (a : Address) (key : Key) (set : List ℕ) (m : Inbound) (each : OfEach (IsSessionOf a.0) m) (of_key : key.source.0 < 254) where
  -- it goes on
  settles_on : (s : Incoming) (frame : Option CanFrame) → IsSessionOf a.0 key (set, s) → SaidBack a.0 key.source.0 frame → Settles a key m (record { sessions = finmap.insert m key (Some (set, s)); frame = frame; events = [] })
  settles_on s frame h k = record {
    sessions = of_each_put (IsSessionOf a.0) m key (set, s) h each;
    frame = (key.source.0, of_key, k);
    ports = tt;
    untold = λ s n. tt;
    one = λ x s. one_of_none [] refl;
    stays = λ q n. put_stays m key q (set, s) n;
  }

  -- it ends
  settles_ended : (frame : Option CanFrame) → SaidBack a.0 key.source.0 frame → Settles a key m (record { sessions = finmap.remove m key; frame = frame; events = [] })
  settles_ended frame k = record {
    sessions = of_each_dropped (IsSessionOf a.0) m key each;
    frame = (key.source.0, of_key, k);
    ports = tt;
    untold = λ s n. tt;
    one = λ x s. one_of_none [] refl;
    stays = λ q n. dropped_stays m key q;
  }

  -- its message is complete
  settles_whole : Distinct set → (station : Address) (room : Bool) (given refused : Option CanFrame) (from to : Address) (pgn : ℕ) (bytes : List ℕ) → station ≡ a → SaidBack a.0 key.source.0 given → SaidBack a.0 key.source.0 refused → ((s : Address) → (key_all s ≡ key → ⊥) → is_lane s all from to ≡ false)
      → Settles a key m (cond room (record { sessions = finmap.remove m key; frame = given; events = gives_to station set from to pgn bytes }) (record { sessions = finmap.remove m key; frame = refused; events = [] }))
  settles_whole d station true given refused from to pgn bytes e k l n = record {
    sessions = of_each_dropped (IsSessionOf a.0) m key each;
    frame = (key.source.0, of_key, k);
    ports = given_of_port station from to pgn bytes a set e;
    untold = λ s q. given_untold station from to pgn bytes s set (n s q);
    one = λ x s. given_one station from to pgn bytes x s set d;
    stays = λ q n. dropped_stays m key q;
  }
  settles_whole d station false given refused from to pgn bytes e k l n = settles_ended refused l

  module _ (station : Address) (is : station ≡ a) (small : a.0 < 254) (foreign : key.source.0 ≡ a.0 → ⊥) (distinct : Distinct set) (room : Bool) where
    of_it : (s : Incoming) → IsStateOf a.0 key s → IsSessionOf a.0 key (set, s)
    of_it s h = record { small = of_key; foreign = foreign; distinct = distinct; state = h }

    to_one : (s from to : Address) → to.0 ≡ a.0 → is_lane s all from to ≡ false
    to_one s from to e = and_right (from.0 == s.0) (to.0 == 255) (ne_eqb to.0 255 (λ q. omega (arith, e, q, small)))

    settles_connection : (r : Received) (kind : Kind) → key.kind ≡ session_for kind → StaysOf kind r → Fits a.0 key.source.0 r → Settles a key m (connection_settled station key set room m r)
    settles_connection (On s frame) kind k stays h = settles_on (incoming.Connection s) frame (of_it (incoming.Connection s) (h.0, k ∙ ap session_for (sym stays))) h.1
    settles_connection (Complete w) kind k stays h = settles_whole distinct station room _ _ (record { 0 = w.peer.from }) (record { 0 = w.peer.to }) (clean w.peer.pgn) w.bytes is (said_end a.0 key.source.0 w.kind w.peer w.size h) (said_peer a.0 key.source.0 w.peer _ h) (λ s n. to_one s _ (record { 0 = w.peer.to }) h.0)
    settles_connection (Ended frame) kind k stays h = settles_ended frame h

    abbrev IsFrom : ℕ → bam-steps.Received → Type 0
    IsFrom n (bam-steps.Awaits t) = t.from ≡ n
    IsFrom n (bam-steps.Completes bytes) = Unit {0}
    IsFrom n bam-steps.Drops = Unit {0}

    same_from : (s : bam.Incoming) (k : ℕ) (bytes : List ℕ) (now : ℕ) → IsFrom s.from (bam-steps.received s k bytes now)
    same_from s k bytes now =
        either (IsFrom s.from) (nat_lt k s.join.next) _ _ refl
        (either (IsFrom s.from) (nat_lt s.join.next k) _ _ tt
        (either (IsFrom s.from) (not (wants_last s.join)) _ _ refl tt))

    from_step : (s : bam.Incoming) (wire : Wire) (now : ℕ) → IsFrom s.from (bam-steps.stepped s wire now)
    from_step s (Packet Tp k bytes) now = same_from s k bytes now
    from_step s (Packet Etp k bytes) now = refl
    from_step s (Cm frame) now = refl
    from_step s (Request pgn) now = refl
    from_step s (Ack control address pgn) now = refl

    not_of : (s : Address) (n : ℕ) → n ≡ key.source.0 → key.kind ≡ session.Broadcast → (key_all s ≡ key → ⊥) → is_lane s all (record { 0 = n }) all ≡ false
    not_of s n e k d = and_left (n == s.0) true (ne_eqb n s.0 (λ q. let t : s.0 ≡ key.source.0 = sym q ∙ e in d (λ i. record { source = record { 0 = t i }; kind = sym k i })))

    settles_broadcast : (s : bam.Incoming) (r : bam-steps.Received) → IsStateOf a.0 key (incoming.Broadcast s) → IsFrom s.from r → Settles a key m (broadcast_settled station key set room m s r)
    settles_broadcast s (bam-steps.Awaits t) h k = settles_on (incoming.Broadcast t) None (of_it (incoming.Broadcast t) (k ∙ h.0, h.1)) tt
    settles_broadcast s (bam-steps.Completes bytes) h k = settles_whole distinct station room None None (record { 0 = s.from }) all (clean s.pgn) bytes is tt tt (λ x n. not_of x s.from h.0 h.1 n)
    settles_broadcast s bam-steps.Drops h k = settles_ended None tt

    pub settles_step : (s : Incoming) (wire : Wire) (flow : Flow) (now : ℕ) → IsStateOf a.0 key s → Settles a key m (session_stepped station key set room m flow s wire now)
    settles_step (incoming.Broadcast s) wire flow now h = settles_broadcast s (bam-steps.stepped s wire now) h (from_step s wire now)
    settles_step (incoming.Connection s) wire flow now h =
        let p : InState = prepared s wire room flow in
        settles_connection (stepped p wire room flow now) (unfinished_of p).kind (h.1 ∙ ap session_for (sym (prepared_stays s wire room flow))) (step_stays p wire room flow now)
        (connection_step a.0 key.source.0 p wire room flow now (peer_prepared a.0 key.source.0 s wire room flow h.0))

  module _ (station : Address) (is : station ≡ a) (small : a.0 < 254) (foreign : key.source.0 ≡ a.0 → ⊥) (distinct : Distinct set) where
    pub settles_fire : (s : Incoming) (flow : Flow) (now : ℕ) → IsStateOf a.0 key s → Settles a key m (session_fired station key set m flow s now)
    settles_fire (incoming.Broadcast s) flow now h = settles_ended None tt
    settles_fire (incoming.Connection s) flow now h =
        let p : InState = prepared_to_expire s flow in
        settles_connection station is small foreign distinct true (expired p flow now) (unfinished_of p).kind (h.1 ∙ ap session_for (sym (prepared_fire_stays s flow))) (expired_stays p flow now)
        (connection_expired a.0 key.source.0 p flow now (peer_prepared_fire a.0 key.source.0 s flow h.0))

  closing_said : (s : Incoming) → IsStateOf a.0 key s → SaidBack a.0 key.source.0 (closing_frame s)
  closing_said (incoming.Broadcast s) h = tt
  closing_said (incoming.Connection s) h = said_peer a.0 key.source.0 (unfinished_of s).peer _ h.0

  pub settles_closed : (s : Incoming) → IsStateOf a.0 key s → Settles a key m (record { sessions = finmap.remove m key; frame = closing_frame s; events = [] })
  settles_closed s h = settles_ended (closing_frame s) (closing_said s h)

pub no_broadcast : (kind : Kind) → session.Broadcast ≡ session_for kind → ⊥
no_broadcast Tp e = cc
no_broadcast Etp e = cc

-- Calls

module _ (a : Address) (ports : Ports) (is : ports.station ≡ a) (small : a.0 < 254) (key : Key) (m : Inbound) (each : OfEach (IsSessionOf a.0) m) where
  pub settles_received : (wire : Wire) (room : Bool) (now : ℕ) → Settles a key m (received ports key wire room now m)
  settles_received wire room now = by (state_at m key) refl
    where
      by : (o : Option (List ℕ × Incoming)) → state_at m key ≡ o → Settles a key m (received_by o ports key wire room now m)
      by None e = settles_none a key m each
      by (Some v) e = let h : IsSessionOf a.0 key v = each key v e in
          settles_step a key v.0 m each h.small ports.station is small h.foreign h.distinct room v.1 wire (flow_at ports v.0) now h.state

  pub settles_fired : (now : ℕ) → Settles a key m (fired_at ports key now m)
  settles_fired now = by (state_at m key) refl
    where
      by : (o : Option (List ℕ × Incoming)) → state_at m key ≡ o → Settles a key m (fired_by o ports key now m)
      by None e = settles_none a key m each
      by (Some v) e = let h : IsSessionOf a.0 key v = each key v e in
          settles_fire a key v.0 m each h.small ports.station is small h.foreign h.distinct v.1 (flow_at ports v.0) now h.state

  -- a timer gives nothing of the broadcasts of s, and their session is as it was or ends
  pub fired_calmly : (s : Address) (now : ℕ) → Each (IsUntold s) (fired_at ports key now m).events × StaysOrEnds (session_at (fired_at ports key now m).sessions (key_all s)) (session_at m (key_all s))
  fired_calmly s now = by (state_at m key) refl (settles_fired now)
    where
      other : (o : Option (List ℕ × Incoming)) → Settles a key m (fired_by o ports key now m) → (key_all s ≡ key → ⊥) → Each (IsUntold s) (fired_by o ports key now m).events × StaysOrEnds (session_at (fired_by o ports key now m).sessions (key_all s)) (session_at m (key_all s))
      other o h n = (h.untold s n, h.stays (key_all s) n)

      by : (o : Option (List ℕ × Incoming)) → state_at m key ≡ o → Settles a key m (fired_by o ports key now m) → Each (IsUntold s) (fired_by o ports key now m).events × StaysOrEnds (session_at (fired_by o ports key now m).sessions (key_all s)) (session_at m (key_all s))
      by None e h = (tt, inr refl)
      by (Some (set, incoming.Broadcast b)) e h = (tt, dropped_stays m key (key_all s))
      by (Some (set, incoming.Connection t)) e h = other (Some (set, incoming.Connection t)) h (λ q. no_broadcast (unfinished_of t).kind (ap (λ (x : Key). x.kind) q ∙ (each key (set, incoming.Connection t) e).state.1))

  -- an abort
  pub each_aborted : (pgn : ℕ) → OfEach (IsSessionOf a.0) (aborted_at key pgn m)
  each_aborted pgn = by (state_at m key)
    where
      by : (o : Option (List ℕ × Incoming)) → OfEach (IsSessionOf a.0) (elim o [ None ↦ m | Some v ↦ cond (clean (pgn_of v.1) == clean pgn) (finmap.remove m key) m ])
      by None = each
      by (Some v) = either (OfEach (IsSessionOf a.0)) (clean (pgn_of v.1) == clean pgn) (finmap.remove m key) m (of_each_dropped (IsSessionOf a.0) m key each) each

  pub aborted_stays : (pgn : ℕ) (q : Key) → StaysOrEnds (session_at (aborted_at key pgn m) q) (session_at m q)
  aborted_stays pgn q = by (state_at m key)
    where
      by : (o : Option (List ℕ × Incoming)) → StaysOrEnds (session_at (elim o [ None ↦ m | Some v ↦ cond (clean (pgn_of v.1) == clean pgn) (finmap.remove m key) m ]) q) (session_at m q)
      by None = inr refl
      by (Some v) = either (λ (x : Inbound). StaysOrEnds (session_at x q) (session_at m q)) (clean (pgn_of v.1) == clean pgn) (finmap.remove m key) m (dropped_stays m key q) (inr refl)

  -- a port closes
  pub settles_unbound : (number : ℕ) → Settles a key m (unbound_at key number m)
  settles_unbound number = by (state_at m key) refl
    where
      by : (o : Option (List ℕ × Incoming)) → state_at m key ≡ o → Settles a key m (unbound_by o key number m)
      by None e = settles_none a key m each
      by (Some v) e = let h : IsSessionOf a.0 key v = each key v e in
          either (Settles a key m) (length (without_number v.0 number) == 0) _ _
          (settles_closed a key v.0 m each h.small v.1 h.state)
          (settles_on a key (without_number v.0 number) m each h.small v.1 None (record { small = h.small; foreign = h.foreign; distinct = distinct_without number v.0 h.distinct; state = h.state }) tt)

  pub unbound_stays : (number : ℕ) (q : Key) → StaysOrEnds (session_at (unbound_at key number m).sessions q) (session_at m q)
  unbound_stays number q = by (state_at m key) refl
    where
      same : (v : List ℕ × Incoming) (set : List ℕ) → state_at m key ≡ Some v → (q ≡ key) ⊎ (q ≡ key → ⊥) → StaysOrEnds (session_at (finmap.insert m key (Some (set, v.1))) q) (session_at m q)
      same v set e (inl k) = inr (ap (λ x. session_at (finmap.insert m key (Some (set, v.1))) x) k ∙ ap (option_map (λ (w : List ℕ × Incoming). w.1)) (state_put m key (set, v.1) ∙ refl) ∙ ap (option_map (λ (w : List ℕ × Incoming). w.1)) (sym e) ∙ ap (λ x. session_at m x) (sym k))
      same v set e (inr n) = put_stays m key q (set, v.1) n

      by : (o : Option (List ℕ × Incoming)) → state_at m key ≡ o → StaysOrEnds (session_at (unbound_by o key number m).sessions q) (session_at m q)
      by None e = inr refl
      by (Some v) e = either (λ (r : Reception). StaysOrEnds (session_at r.sessions q) (session_at m q)) (length (without_number v.0 number) == 0) _ _ (dropped_stays m key q) (same v (without_number v.0 number) e (key_cases q key))
