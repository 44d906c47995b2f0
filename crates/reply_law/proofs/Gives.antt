-- A station gives only by the packet that completes a session with room, and what it gives then is as long as the session was
-- opened for: every other call and every other frame gives nothing.
use Rattle.std.proofs.Common.{◌≡◌, ℕ, zero, suc, ◌≤◌, Bool, true, false, cond, List, [], ◌∷◌, ◌++◌, map, length, Option, Some, None, refl, sym, ap, ◌∙◌, subst}
use Rattle.bus_frame.specs.Frames.{CanFrame}
use Rattle.pgn_ids.specs.Pgn.{clean}
use Rattle.pgn_ids.specs.declared.address.Address.{Address}
use Rattle.tp_wire.specs.Reading.{reading}
use Rattle.tp_wire.specs.declared.wire.Kind.{Kind}
use Rattle.tp_wire.specs.declared.wire.CmFrame.{CmFrame}
use Rattle.tp_wire.specs.declared.wire.CmFrame.TheVariants.{Rts, Cts, EndOfMsgAck, Bam, Abort, EtpRts, EtpCts, EtpDpo, EtpEoma, EtpAbort}
use Rattle.tp_wire.specs.declared.wire.Wire.{Wire}
use Rattle.tp_wire.specs.declared.wire.Wire.TheVariants.{Cm, Packet, Request, Ack}
use Rattle.responder.specs.Steps.{stepped}
use Rattle.responder.specs.Room.{prepared, prepared_to_expire}
use Rattle.responder.specs.declared.flow.Flow.{Flow}
use Rattle.responder.specs.declared.received.Received.{Received}
use Rattle.responder.specs.declared.received.Received.TheVariants.{On, Complete, Ended}
use Rattle.bam_session.specs.States as bam
use Rattle.bam_session.specs.Receiving as bam-steps
use Rattle.port_table.specs.Ports.{Ports}
use Rattle.lane_core.specs.Hear.{heard}
use Rattle.lane_core.specs.Lane.{Lane}
use Rattle.lane_core.specs.Fire as lane-fire
use Rattle.lane_core.specs.Overrun as lane-overrun
use Rattle.lane_core.specs.declared.step.Ended.{Ended as EndedMessage}
use Rattle.lane_core.specs.Step.{LaneStep}
use Rattle.session_table.specs.DueOrder.{first_due}
use Rattle.session_table.specs.Sessions.{state_at}
use Rattle.session_table.specs.declared.key.Key.{Key}
use Rattle.session_table.specs.declared.key.SessionKind.TheVariants as session
use Rattle.session_table.specs.declared.incoming.Incoming.{Incoming}
use Rattle.session_table.specs.declared.incoming.Incoming.TheVariants as incoming
use Rattle.station_lanes.specs.Lanes.{Lanes}
use Rattle.station_lanes.specs.LaneCalls.{step_at, outcome_of}
use Rattle.station_lanes.specs.LaneReaders.{due_lane, overrun_lanes, overrun_events}
use Rattle.message_events.specs.declared.event.Event.{Event}
use Rattle.message_events.specs.declared.event.Event.TheVariants as event
use Rattle.station_sessions.specs.Steps.{completes, size_of}
use Rattle.station_sessions.specs.Receiving.{Inbound, flow_at, broadcast_settled, connection_settled, session_stepped, session_fired, received_by, fired_by, wanted_by}
use Rattle.station_sessions.specs.Opening.{key_of, opening_received}
use Rattle.record_law.proofs.Openings.{opening_untold}
use Rattle.station_core.specs.Station.{Station, StationStep, quietly, by_lane, by_session}
use Rattle.station_core.specs.Overruns.{overrun}
use Rattle.station_core.specs.Taking.{packet_kind, cm_taken, wire_taken, meaning_taken, looks_at, taken, wire_wanted, meaning_wanted, wanted}
use Rattle.station_core.specs.Timers.{lane_fired, fired}
use Rattle.segment_law.specs.Readers.{ports_given}
use Rattle.responder.proofs.Rows.{by_timer}
use Rattle.record_law.proofs.readers.Wanted.{packet_ports, dpo_ports}
use Rattle.record_law.proofs.ports.Receptions.{IsBound, AreBound}
use Rattle.record_law.proofs.ports.Sessions.{IsOf, Goes, GoesBroadcast, connection_step, connection_prepared, broadcast_step}
use Rattle.reply_law.specs.Replies.{EachShort}

pub none_short : (n : ℕ) (es : List Event) → ports_given es ≡ [] → EachShort n es
none_short n [] e = tt
none_short n (event.Given p f t g b ∷ es) e = absurd (let q : p.number ∷ ports_given es ≡ [] = e in cc)
none_short n (event.Outcome f t k o ∷ es) e = (tt, none_short n es e)

-- Outcomes

pub outcome_none : (from to : Address) (o : Option EndedMessage) → ports_given (outcome_of from to o) ≡ []
outcome_none from to None = refl
outcome_none from to (Some e) = refl

ports_append : (xs ys : List Event) → ports_given (xs ++ ys) ≡ ports_given xs ++ ports_given ys
ports_append [] ys = refl
ports_append (event.Given p f t g b ∷ xs) ys = ap (λ (ns : List ℕ). p.number ∷ ns) (ports_append xs ys)
ports_append (event.Outcome f t n o ∷ xs) ys = ports_append xs ys

overrun_none-below : (from : Address) (lanes : Lanes) (n : ℕ) → ports_given (overrun_events from lanes n) ≡ []
unfolding overrun_events
overrun_none-below from lanes zero = refl
overrun_none-below from lanes (suc n) =
    let o = (step_at (overrun_lanes lanes n) n lane-overrun.overrun).ended in
    ports_append (overrun_events from lanes n) (outcome_of from (record { 0 = n }) o) ∙ ap (λ (ns : List ℕ). ns ++ ports_given (outcome_of from (record { 0 = n }) o)) (overrun_none-below from lanes n) ∙ outcome_none from (record { 0 = n }) o

pub overrun_none : (st : Station) → ports_given (overrun st).events ≡ []
overrun_none st = overrun_none-below st.address st.lanes 256

-- Sessions

given_short : (n : ℕ) (station from to : Address) (pgn : ℕ) (bytes set : List ℕ) → length bytes ≤ n → EachShort n (map (λ (number : ℕ). event.Given (record { station = station; number = number }) from to pgn bytes) set)
given_short n station from to pgn bytes [] l = tt
given_short n station from to pgn bytes (k ∷ set) l = (l, given_short n station from to pgn bytes set l)

module _ (station : Address) (key : Key) (set : List ℕ) (m : Inbound) where
  roomless_broadcast : (s : bam.Incoming) (r : bam-steps.Received) → ports_given (broadcast_settled station key set false m s r).events ≡ []
  roomless_broadcast s (bam-steps.Awaits t) = refl
  roomless_broadcast s (bam-steps.Completes bytes) = refl
  roomless_broadcast s bam-steps.Drops = refl

  roomless_connection : (r : Received) → ports_given (connection_settled station key set false m r).events ≡ []
  roomless_connection (On s frame) = refl
  roomless_connection (Complete w) = refl
  roomless_connection (Ended frame) = refl

  no_room : (s : Incoming) (wire : Wire) (flow : Flow) (now : ℕ) → ports_given (session_stepped station key set false m flow s wire now).events ≡ []
  no_room (incoming.Broadcast s) wire flow now = roomless_broadcast s (bam-steps.stepped s wire now)
  no_room (incoming.Connection s) wire flow now = roomless_connection (stepped (prepared s wire false flow) wire false flow now)

  module _ (own pgn size : ℕ) where
    broadcast_short : (s : bam.Incoming) (r : bam-steps.Received) → GoesBroadcast own pgn size r → EachShort size (broadcast_settled station key set true m s r).events
    broadcast_short s (bam-steps.Awaits t) h = tt
    broadcast_short s (bam-steps.Completes bytes) h = given_short size station (record { 0 = s.from }) (record { 0 = 255 }) (clean s.pgn) bytes set h
    broadcast_short s bam-steps.Drops h = tt

    connection_short : (r : Received) → Goes own pgn size r → EachShort size (connection_settled station key set true m r).events
    connection_short (On s frame) h = tt
    connection_short (Complete w) h = given_short size station (record { 0 = w.peer.from }) (record { 0 = w.peer.to }) (clean w.peer.pgn) w.bytes set h.2
    connection_short (Ended frame) h = tt

    step_short : (s : Incoming) (wire : Wire) (flow : Flow) (now : ℕ) → IsOf own pgn size s → EachShort size (session_stepped station key set true m flow s wire now).events
    step_short (incoming.Broadcast s) wire flow now h = broadcast_short s (bam-steps.stepped s wire now) (broadcast_step own pgn size s wire now h)
    step_short (incoming.Connection s) wire flow now h = connection_short (stepped (prepared s wire true flow) wire true flow now)
        (connection_step own pgn size (prepared s wire true flow) wire true flow now (connection_prepared own pgn size s wire true flow h))

module _ (own pgn size : ℕ) where
  size_is : (s : Incoming) → IsOf own pgn size s → size_of s ≡ size
  size_is (incoming.Broadcast s) h = h.1.0
  size_is (incoming.Connection s) h = h.1.1.0

-- its timer completes nothing
expired_none : (station : Address) (key : Key) (set : List ℕ) (m : Inbound) (s : Incoming) (flow : Flow) (now : ℕ) → ports_given (session_fired station key set m flow s now).events ≡ []
expired_none station key set m (incoming.Broadcast s) flow now = refl
expired_none station key set m (incoming.Connection s) flow now = by_timer (λ r. ports_given (connection_settled station key set true m r).events ≡ []) flow now (prepared_to_expire s flow) refl refl

fired_by_none : (o : Option (List ℕ × Incoming)) (ports : Ports) (key : Key) (now : ℕ) (m : Inbound) → ports_given (fired_by o ports key now m).events ≡ []
fired_by_none None ports key now m = refl
fired_by_none (Some v) ports key now m = expired_none ports.station key v.0 m v.1 (flow_at ports v.0) now

module _ (ports : Ports) (key : Key) (now : ℕ) (m : Inbound) where
  offset_none : (o : Option (List ℕ × Incoming)) (packets offset pgn : ℕ) (room : Bool) → ports_given (received_by o ports key (Cm (EtpDpo packets offset pgn)) room now m).events ≡ []
  offset_none None packets offset pgn room = refl
  offset_none (Some v) packets offset pgn true = dpo_ports ports.station key v.0 m v.1 packets offset pgn (flow_at ports v.0) now
  offset_none (Some v) packets offset pgn false = no_room ports.station key v.0 m v.1 (Cm (EtpDpo packets offset pgn)) (flow_at ports v.0) now

  roomless : (o : Option (List ℕ × Incoming)) (wire : Wire) → ports_given (received_by o ports key wire false now m).events ≡ []
  roomless None wire = refl
  roomless (Some v) wire = no_room ports.station key v.0 m v.1 wire (flow_at ports v.0) now

  packet_short : (o : Option (List ℕ × Incoming)) → ((v : List ℕ × Incoming) → o ≡ Some v → IsBound ports key v) → (k : Kind) (sequence : ℕ) (bytes : List ℕ)
      → EachShort (wanted_by o (Packet k sequence bytes)).1 (received_by o ports key (Packet k sequence bytes) true now m).events
  packet_short None h k sequence bytes = tt
  packet_short (Some v) h k sequence bytes = by (completes v.1 (Packet k sequence bytes)) refl
    where
      wire : Wire
      wire = Packet k sequence bytes

      events : List Event
      events = (session_stepped ports.station key v.0 true m (flow_at ports v.0) v.1 wire now).events

      b : IsBound ports key v
      b = h v refl

      by : (c : Bool) → completes v.1 wire ≡ c → EachShort (cond {A = List ℕ × ℕ} c (v.0, size_of v.1) ([], 0)).1 events
      by true e = subst (λ (n : ℕ). EachShort n events) (sym (size_is ports.station.0 b.pgn b.size v.1 b.state))
          (step_short ports.station key v.0 m ports.station.0 b.pgn b.size v.1 wire (flow_at ports v.0) now b.state)
      by false e = none_short 0 events (packet_ports ports.station key v.0 m v.1 k sequence bytes (flow_at ports v.0) now ∙ ap (λ (c : Bool). cond c v.0 []) e)

-- Stations

module _ (st : Station) (now : ℕ) where
  lane_none : (from : Address) (wire : Wire) → ports_given (outcome_of st.address from (step_at st.lanes from.0 (λ l. heard l wire now)).ended) ≡ []
  lane_none from wire = outcome_none st.address from (step_at st.lanes from.0 (λ l. heard l wire now)).ended

  opening_none : (from : Address) (room : Bool) (frame : CmFrame) → ports_given (opening_received st.address st.ports frame from room now st.sessions).events ≡ []
  opening_none from room frame = ap ports_given (opening_untold st.address st.ports from room now st.sessions frame)

  cm_none : (frame : CmFrame) (from : Address) (room : Bool) → ports_given (cm_taken st frame from room now).events ≡ []
  cm_none (Rts size packets most pgn) from room = opening_none from room (Rts size packets most pgn)
  cm_none (Cts granted next pgn) from room = lane_none from (Cm (Cts granted next pgn))
  cm_none (EndOfMsgAck size packets pgn) from room = lane_none from (Cm (EndOfMsgAck size packets pgn))
  cm_none (Bam size packets pgn) from room = opening_none from room (Bam size packets pgn)
  cm_none (Abort reason pgn) from room = lane_none from (Cm (Abort reason pgn))
  cm_none (EtpRts size pgn) from room = opening_none from room (EtpRts size pgn)
  cm_none (EtpCts granted next pgn) from room = lane_none from (Cm (EtpCts granted next pgn))
  cm_none (EtpDpo packets offset pgn) from room = offset_none st.ports (key_of from session.Etp) now st.sessions (state_at st.sessions (key_of from session.Etp)) packets offset pgn room
  cm_none (EtpEoma size pgn) from room = lane_none from (Cm (EtpEoma size pgn))
  cm_none (EtpAbort reason pgn) from room = lane_none from (Cm (EtpAbort reason pgn))

  wire_none : (wire : Wire) (from to : Address) → ports_given (wire_taken st wire from to false now).events ≡ []
  wire_none (Cm frame) from to = cm_none frame from false
  wire_none (Packet k sequence bytes) from to = roomless st.ports (key_of from (packet_kind k to)) now st.sessions (state_at st.sessions (key_of from (packet_kind k to))) (Packet k sequence bytes)
  wire_none (Request pgn) from to = refl
  wire_none (Ack control address pgn) from to = refl

  meaning_none : (o : Option (Wire × Address × Address)) → ports_given (meaning_taken st o false now).events ≡ []
  meaning_none None = refl
  meaning_none (Some m) = wire_none m.0 m.1 m.2

  -- without room
  pub taken_none : (f : CanFrame) → ports_given (taken st f false now).events ≡ []
  taken_none f = by (looks_at st f)
    where
      by : (b : Bool) → ports_given (cond b (meaning_taken st (reading f) false now) (quietly st)).events ≡ []
      by true = meaning_none (reading f)
      by false = refl

  module _ (bound : AreBound st.ports st.sessions) where
    wire_short : (wire : Wire) (from to : Address) → EachShort (wire_wanted st wire from to).1 (wire_taken st wire from to true now).events
    wire_short (Cm frame) from to = none_short 0 (cm_taken st frame from true now).events (cm_none frame from true)
    wire_short (Packet k sequence bytes) from to = packet_short st.ports (key_of from (packet_kind k to)) now st.sessions (state_at st.sessions (key_of from (packet_kind k to))) (λ v e. bound (key_of from (packet_kind k to)) v e) k sequence bytes
    wire_short (Request pgn) from to = tt
    wire_short (Ack control address pgn) from to = tt

    meaning_short : (o : Option (Wire × Address × Address)) → EachShort (meaning_wanted st o).1 (meaning_taken st o true now).events
    meaning_short None = tt
    meaning_short (Some m) = wire_short m.0 m.1 m.2

    -- with room
    pub taken_short : (f : CanFrame) → EachShort (wanted st f).1 (taken st f true now).events
    taken_short f = by (looks_at st f)
      where
        by : (b : Bool) → EachShort (cond {A = List ℕ × ℕ} b (meaning_wanted st (reading f)) ([], 0)).1 (cond b (meaning_taken st (reading f) true now) (quietly st)).events
        by true = meaning_short (reading f)
        by false = tt

  pub by_lane_none : (to : Address) (step : Lane → Lane × LaneStep) → ports_given (by_lane st to step).events ≡ []
  by_lane_none to step = outcome_none st.address to (step_at st.lanes to.0 step).ended

  lane_fired_none : (o : Option ℕ) → ports_given (lane_fired st now o).events ≡ []
  lane_fired_none None = refl
  lane_fired_none (Some to) = by_lane_none (record { 0 = to }) (λ l. lane-fire.fired l now)

  pub fired_none : ports_given (fired st now).events ≡ []
  fired_none = by (first_due st.sessions now)
    where
      by : (o : Option Key) → ports_given (elim o as (λ (_ : Option Key). StationStep) [ None ↦ lane_fired st now (due_lane st.lanes now) | Some key ↦ by_session st (fired_by (state_at st.sessions key) st.ports key now st.sessions) ]).events ≡ []
      by None = lane_fired_none (due_lane st.lanes now)
      by (Some key) = fired_by_none (state_at st.sessions key) st.ports key now st.sessions
