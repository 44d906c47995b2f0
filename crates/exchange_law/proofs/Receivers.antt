-- The receiver's session with the sender, whatever its kind: how it opens, and what the station makes of a step of it.
use Rattle.std.proofs.Common.{◌≡◌, ℕ, ◌<◌, ◌==◌, nat_lt, nat_le, Bool, true, false, cond, List, [], length, Option, Some, None, refl, sym, ap, ◌∙◌, arith}
use Rattle.std.specs.Option.{option_flatten}
use Rattle.std.specs.FinMap as finmap
use Rattle.std.specs.FinMap.{get-insert}
use Rattle.std.proofs.lemmas.Bool.{ne_eqb, lt-leb, ltb-true, and_parts}
use Rattle.bus_frame.specs.Frames.{CanFrame}
use Rattle.tp_wire.specs.declared.wire.Kind.{Kind}
use Rattle.tp_wire.specs.declared.wire.Kind.TheVariants.{Tp, Etp}
use Rattle.tp_wire.specs.declared.wire.Wire.{Wire}
use Rattle.port_table.specs.Ports.{is_any_paused, ports_for}
use Rattle.responder.specs.Peer.{Peer}
use Rattle.responder.specs.Steps.{stepped}
use Rattle.responder.specs.Room.{prepared}
use Rattle.responder.specs.declared.flow.Flow.{Flow}
use Rattle.responder.specs.declared.in_state.InState.{InState}
use Rattle.responder.specs.declared.flow.Flow.TheVariants.{Open}
use Rattle.session_table.specs.declared.TheConstants.{MAX_SESSIONS}
use Rattle.session_table.specs.declared.key.Key.{Key}
use Rattle.session_table.specs.declared.key.SessionKind.TheVariants as session
use Rattle.session_table.specs.declared.incoming.Incoming.{Incoming}
use Rattle.session_table.specs.declared.incoming.Incoming.TheVariants.{Connection}
use Rattle.session_table.specs.Key.{session_for}
use Rattle.session_table.specs.Sessions.{state_at}
use Rattle.session_table.proofs.Keys.{key_total}
use Rattle.session_table.proofs.Tables.{key_eq-refl}
use Rattle.station_sessions.specs.Steps.{flow_of}
use Rattle.station_sessions.specs.Receiving.{Inbound, flow_at, connection_settled, received_by}
use Rattle.station_sessions.specs.Opening.{key_of, others_than, set_for, refusal}
use Rattle.station_core.specs.Station.{Station, by_session}
use Rattle.station_core.specs.Taking.{packet_kind, in_session}
use Rattle.segment_law.specs.Quiet.{takers, has_place}
use Rattle.record_law.proofs.Told.{clean_is}
use Rattle.exchange_law.proofs.Senders.{Sent, s, d, len, not_to_all}

-- the receiver takes the message, and has a place for it
pub record Welcome (e : Sent) : Type 0 where
  pub place : has_place e.pair.ys e.m e.pair.xs.address (session_for e.kind) ≡ true
  pub flowing : is_any_paused e.pair.ys.ports (takers e.pair.ys e.m) ≡ false
  pub ports : e.pair.ys.ports.station ≡ e.pair.ys.address

module _ (e : Sent) where
  abbrev pub peer : Peer
  peer = record { from = (s e).0; to = (d e).0; pgn = e.m.pgn }

  abbrev pub key : Kind → Key
  key kind = key_of (s e) (session_for kind)

  abbrev pub set : List ℕ
  set = takers e.pair.ys e.m

  -- the receiver
  abbrev pub hears : List CanFrame → Inbound → Station
  hears queue sessions = record e.pair.ys { queue = queue; sessions = sessions }

  -- its sessions, with one in a state
  abbrev pub sessions_with : Kind → Incoming → Inbound
  sessions_with kind x = finmap.insert e.pair.ys.sessions (key kind) (Some (set, x))

  -- a packet is for the session of its kind
  pub key_is : (kind : Kind) → key_of (s e) (packet_kind kind (d e)) ≡ key kind
  key_is Tp = ap (λ (b : Bool). key_of (s e) (cond b session.Broadcast session.Tp)) (not_to_all e)
  key_is Etp = refl

  pub set_is : (queue : List CanFrame) (sessions : Inbound) → set_for (hears queue sessions).ports e.m.pgn (len e) ≡ set
  set_is queue sessions = ap (λ (p : ℕ). ports_for e.pair.ys.ports p (len e)) (clean_is e.m.pgn e.pgn).1

  module _ (h : Welcome e) where
    pub flow_is : flow_at e.pair.ys.ports set ≡ Open
    flow_is = ap flow_of h.flowing

    -- the session opens
    pub admits : (kind : Kind) → e.kind ≡ kind → refusal true true set (others_than (hears [] e.pair.ys.sessions).sessions (key kind)) ≡ None
    admits kind is =
        let others : ℕ = others_than e.pair.ys.sessions (key kind) in
        let both : (nat_lt 0 (length set) ≡ true) × (nat_lt others MAX_SESSIONS ≡ true) = and_parts (nat_lt 0 (length set)) (nat_lt others MAX_SESSIONS) (ap (λ (k : Kind). has_place e.pair.ys e.m (s e) (session_for k)) (sym is) ∙ h.place) in
        let long : 0 < length set = ltb-true 0 (length set) both.0 in
        let some : (length set == 0) ≡ false = ne_eqb (length set) 0 (λ q. absurd (omega (arith, q, long))) in
        let few : nat_le MAX_SESSIONS others ≡ false = lt-leb MAX_SESSIONS others (ltb-true others MAX_SESSIONS both.1) in
        rw (some, few) refl

    -- a step of the session is the station's
    pub stepped_as : (kind : Kind) (x : InState) (w : Wire) (now : ℕ) → in_session (hears [] (sessions_with kind (Connection x))) (key kind) w true now
        ≡ by_session (hears [] (sessions_with kind (Connection x))) (connection_settled e.pair.ys.ports.station (key kind) set true (sessions_with kind (Connection x)) (stepped (prepared x w true Open) w true Open now))
    stepped_as kind x w now =
        ap (λ (o : Option (List ℕ × Incoming)). by_session here (received_by o e.pair.ys.ports (key kind) w true now sessions)) there
        ∙ ap (λ (flow : Flow). by_session here (connection_settled e.pair.ys.ports.station (key kind) set true sessions (stepped (prepared x w true flow) w true flow now))) flow_is
      where
        sessions : Inbound
        sessions = sessions_with kind (Connection x)

        here : Station
        here = hears [] sessions

        there : state_at (sessions_with kind (Connection x)) (key kind) ≡ Some (set, Connection x)
        there = ap option_flatten (get-insert key_total e.pair.ys.sessions (key kind) (Some (set, Connection x)) (key kind) ∙ ap (λ b. cond b (Some (Some (set, Connection x))) (finmap.get e.pair.ys.sessions (key kind))) (key_eq-refl (key kind)))
