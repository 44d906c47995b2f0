-- What frames and timers make of the incoming sessions of a station: each gives to open ports alone, and of its PGN and size.
use Rattle.std.proofs.Common.{◌≡◌, ◌⊎◌, inl, inr, ℕ, ◌<◌, ◌≤◌, ◌==◌, Bool, true, false, cond, List, [], length, Option, Some, None, refl, sym, ap, ◌∙◌}
use Rattle.std.specs.FinMap as finmap
use Rattle.bus_frame.specs.Frames.{CanFrame}
use Rattle.pgn_ids.specs.Pgn.{clean}
use Rattle.pgn_ids.specs.declared.address.Address.{Address}
use Rattle.tp_wire.specs.declared.wire.Wire.{Wire}
use Rattle.responder.specs.Steps.{stepped, expired}
use Rattle.responder.specs.Room.{prepared, prepared_to_expire}
use Rattle.responder.specs.declared.flow.Flow.{Flow}
use Rattle.responder.specs.declared.received.Received.{Received}
use Rattle.responder.specs.declared.received.Received.TheVariants.{On, Complete, Ended}
use Rattle.bam_session.specs.States as bam
use Rattle.bam_session.specs.Receiving as bam-steps
use Rattle.port_table.specs.Ports.{Ports}
use Rattle.port_table.specs.PortSet.{without_number}
use Rattle.session_table.specs.declared.key.Key.{Key}
use Rattle.session_table.specs.declared.incoming.Incoming.{Incoming}
use Rattle.session_table.specs.declared.incoming.Incoming.TheVariants as incoming
use Rattle.session_table.specs.Incoming.{pgn_of}
use Rattle.session_table.specs.Sessions.{state_at}
use Rattle.station_sessions.specs.Receiving.{Inbound, Reception, unheard, broadcast_settled, connection_settled, session_stepped, session_fired, flow_at, received_by, received, fired_by, fired_at, aborted_at, unbound_by, unbound_at}
use Rattle.record_law.proofs.Lists.{Each, each_filter}
use Rattle.record_law.proofs.Maps.{State, OfEach, put_of_each, dropped_of_each, of_each_put, of_each_dropped}
use Rattle.record_law.proofs.Segments.{same_address}
use Rattle.record_law.proofs.Tests.{either}
use Rattle.record_law.proofs.ports.Ports.{AllReceive, Lacks, without_lacks, IsToStationOrAll, IsAllowed, gives_to, given_allowed}
use Rattle.record_law.proofs.ports.Sessions.{IsOf, Goes, GoesBroadcast, connection_step, connection_expired, connection_prepared, connection_prepared_fire, broadcast_step}

-- a session with one node, to the own address or to all, gives to ports that are open on its PGN and for its size
pub record IsBound (ports : Ports) (key : Key) (v : State) : Type 0 where
  pub source : key.source.0 < 254
  pub pgn : ℕ
  pub size : ℕ
  pub state : IsOf ports.station.0 pgn size v.1
  pub set : AllReceive ports.open_ports (clean pgn) size v.0

abbrev pub AreBound : Ports → Inbound → Type 0
AreBound ports m = OfEach (IsBound ports) m

-- what is promised of a step
pub record Settles (ports : Ports) (r : Reception) : Type 0 where
  pub sessions : AreBound ports r.sessions
  pub events : Each (IsAllowed ports) r.events

module _ (ports : Ports) (key : Key) (m : Inbound) (each : AreBound ports m) where
  abbrev own : ℕ
  own = ports.station.0

  settles_none : Settles ports (unheard m)
  settles_none = record { sessions = each; events = tt }

  settles_ended : (frame : Option CanFrame) → Settles ports (record { sessions = finmap.remove m key; frame = frame; events = [] })
  settles_ended frame = record { sessions = of_each_dropped (IsBound ports) m key each; events = tt }

  module _ (set : List ℕ) (source : key.source.0 < 254) (pgn size : ℕ) (all : AllReceive ports.open_ports (clean pgn) size set) (room : Bool) where
    settles_on : (s : Incoming) (frame : Option CanFrame) → IsOf own pgn size s → Settles ports (record { sessions = finmap.insert m key (Some (set, s)); frame = frame; events = [] })
    settles_on s frame h = record { sessions = of_each_put (IsBound ports) m key (set, s) (record { source = source; pgn = pgn; size = size; state = h; set = all }) each; events = tt }

    settles_whole : (b : Bool) (given refused : Option CanFrame) (from to : Address) (field : ℕ) (bytes : List ℕ) → IsToStationOrAll ports.station to → field ≡ clean pgn → length bytes ≤ size
        → Settles ports (cond b (record { sessions = finmap.remove m key; frame = given; events = gives_to ports.station set from to field bytes }) (record { sessions = finmap.remove m key; frame = refused; events = [] }))
    settles_whole true given refused from to field bytes t e l = record { sessions = of_each_dropped (IsBound ports) m key each; events = given_allowed ports from to field (clean pgn) size bytes set t e l all }
    settles_whole false given refused from to field bytes t e l = settles_ended refused

    settles_connection : (r : Received) → Goes own pgn size r → Settles ports (connection_settled ports.station key set room m r)
    settles_connection (On s frame) h = settles_on (incoming.Connection s) frame h
    settles_connection (Complete w) h = settles_whole room _ _ (record { 0 = w.peer.from }) (record { 0 = w.peer.to }) (clean w.peer.pgn) w.bytes (inl (same_address (record { 0 = w.peer.to }) ports.station h.0)) h.1 h.2
    settles_connection (Ended frame) h = settles_ended frame

    settles_broadcast : (s : bam.Incoming) (r : bam-steps.Received) → s.pgn ≡ pgn → GoesBroadcast own pgn size r → Settles ports (broadcast_settled ports.station key set room m s r)
    settles_broadcast s (bam-steps.Awaits t) e h = settles_on (incoming.Broadcast t) None h
    settles_broadcast s (bam-steps.Completes bytes) e h = settles_whole room _ _ (record { 0 = s.from }) (record { 0 = 255 }) (clean s.pgn) bytes (inr refl) (ap clean e) h
    settles_broadcast s bam-steps.Drops e h = settles_ended None

    settles_step : (s : Incoming) (wire : Wire) (flow : Flow) (now : ℕ) → IsOf own pgn size s → Settles ports (session_stepped ports.station key set room m flow s wire now)
    settles_step (incoming.Broadcast s) wire flow now h = settles_broadcast s (bam-steps.stepped s wire now) h.0 (broadcast_step own pgn size s wire now h)
    settles_step (incoming.Connection s) wire flow now h = settles_connection (stepped (prepared s wire room flow) wire room flow now) (connection_step own pgn size (prepared s wire room flow) wire room flow now (connection_prepared own pgn size s wire room flow h))

  settles_expired : (set : List ℕ) (source : key.source.0 < 254) (pgn size : ℕ) (all : AllReceive ports.open_ports (clean pgn) size set) (s : Incoming) (flow : Flow) (now : ℕ) → IsOf own pgn size s → Settles ports (session_fired ports.station key set m flow s now)
  settles_expired set source pgn size all (incoming.Broadcast s) flow now h = settles_ended None
  settles_expired set source pgn size all (incoming.Connection s) flow now h = settles_connection set source pgn size all true (expired (prepared_to_expire s flow) flow now) (connection_expired own pgn size (prepared_to_expire s flow) flow now (connection_prepared_fire own pgn size s flow h))

  -- Calls

  pub settles_received : (wire : Wire) (room : Bool) (now : ℕ) → Settles ports (received ports key wire room now m)
  settles_received wire room now = by (state_at m key) refl
    where
      by : (o : Option State) → state_at m key ≡ o → Settles ports (received_by o ports key wire room now m)
      by None e = settles_none
      by (Some v) e = let h : IsBound ports key v = each key v e in
          settles_step v.0 h.source h.pgn h.size h.set room v.1 wire (flow_at ports v.0) now h.state

  pub settles_fired : (now : ℕ) → Settles ports (fired_at ports key now m)
  settles_fired now = by (state_at m key) refl
    where
      by : (o : Option State) → state_at m key ≡ o → Settles ports (fired_by o ports key now m)
      by None e = settles_none
      by (Some v) e = let h : IsBound ports key v = each key v e in
          settles_expired v.0 h.source h.pgn h.size h.set v.1 (flow_at ports v.0) now h.state

  pub bound_aborted : (pgn : ℕ) → AreBound ports (aborted_at key pgn m)
  bound_aborted pgn = by (state_at m key)
    where
      by : (o : Option State) → AreBound ports (elim o [ None ↦ m | Some v ↦ cond (clean (pgn_of v.1) == clean pgn) (finmap.remove m key) m ])
      by None = each
      by (Some v) = either (AreBound ports) (clean (pgn_of v.1) == clean pgn) (finmap.remove m key) m (of_each_dropped (IsBound ports) m key each) each

-- A port is taken out of the set of one session

module _ (key : Key) (m : Inbound) (number : ℕ) where
  pub bound_unbound : (ports : Ports) → AreBound ports m → AreBound ports (unbound_at key number m).sessions
  bound_unbound ports each = by (state_at m key) refl
    where
      by : (o : Option State) → state_at m key ≡ o → AreBound ports (unbound_by o key number m).sessions
      by None e = each
      by (Some v) e = let h : IsBound ports key v = each key v e in
          either (λ (r : Reception). AreBound ports r.sessions) (length (without_number v.0 number) == 0) _ _
          (of_each_dropped (IsBound ports) m key each)
          (of_each_put (IsBound ports) m key (without_number v.0 number, v.1) (record { source = h.source; pgn = h.pgn; size = h.size; state = h.state; set = each_filter _ _ v.0 h.set }) each)

  -- the sets of some sessions lack the port; so do they afterwards, and that of this one too
  module _ (Done Next : Key → Type 0) (cases : (q : Key) → Next q → Done q ⊎ (q ≡ key)) where
    abbrev LackIn : (Key → Type 0) → Inbound → Type 0
    LackIn D x = OfEach (λ q v. D q → Lacks number v.0) x

    other : LackIn Done m → (q : Key) (w : State) → (q ≡ key → ⊥) → state_at m q ≡ Some w → Next q → Lacks number w.0
    other h q w n e t = by (cases q t)
      where
        by : Done q ⊎ (q ≡ key) → Lacks number w.0
        by (inl d) = h q w e d
        by (inr s) = absurd (n s)

    pub lack_unbound : LackIn Done m → LackIn Next (unbound_at key number m).sessions
    lack_unbound h = by (state_at m key) refl
      where
        none : state_at m key ≡ None → (q : Key) (w : State) → state_at m q ≡ Some w → Done q ⊎ (q ≡ key) → Lacks number w.0
        none e q w f (inl d) = h q w f d
        none e q w f (inr s) = let is : None ≡ Some w = sym e ∙ ap (λ x. state_at m x) (sym s) ∙ f in absurd (cc)

        by : (o : Option State) → state_at m key ≡ o → LackIn Next (unbound_by o key number m).sessions
        by None e = λ q w f t. none e q w f (cases q t)
        by (Some v) e = either (λ (r : Reception). LackIn Next r.sessions) (length (without_number v.0 number) == 0) _ _
            (dropped_of_each (λ q w. Next q → Lacks number w.0) m key (other h))
            (put_of_each (λ q w. Next q → Lacks number w.0) m key (without_number v.0 number, v.1) (λ t. without_lacks number v.0) (other h))
