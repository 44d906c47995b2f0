-- A message to all ends as broadcast, unless it is cancelled.
use Rattle.std.proofs.Common.{◌≡◌, ◌⊎◌, inl, inr, ℕ, zero, suc, ◌+◌, ◌^◌, ◌<◌, ◌≤◌, ◌==◌, nat_lt, Bool, true, false, cond, not, ◌&&◌, ◌||◌, List, [], ◌∷◌, ◌++◌, length, Option, Some, None, Ok, Err, refl, sym, ap, ◌∙◌, subst, arith, true≢false, ne_eqb, ltb-true}
use Rattle.std.specs.Prelude.{slice_get}
use Rattle.std.specs.List.{list_all}
use Rattle.std.proofs.lemmas.List.Folds.{list_all-append}
use Rattle.std.specs.FinMap as finmap
use Rattle.bus_frame.specs.Frames.{CanFrame}
use Rattle.pgn_ids.specs.Address.{null_address}
use Rattle.pgn_ids.specs.Identifier.{meaning_of}
use Rattle.pgn_ids.specs.declared.address.Address.{Address}
use Rattle.tick_timers.specs.Timers.{is_due as is_timer_due}
use Rattle.tx_queue.specs.Queue.{free_places, front}
use Rattle.bus_order.specs.Bus as bus
use Rattle.tp_wire.specs.Reading.{reading}
use Rattle.tp_wire.specs.Rows.{comes_from}
use Rattle.tp_wire.specs.declared.constants.TheConstants.{MIN_SIZE, ETP_MAX_WINDOW}
use Rattle.tp_wire.specs.declared.outcome.Outcome.TheVariants as outcome
use Rattle.tp_wire.specs.declared.wire.Kind.{Kind}
use Rattle.tp_wire.specs.declared.wire.Kind.TheVariants.{Tp, Etp}
use Rattle.tp_wire.specs.declared.wire.CmFrame.{CmFrame}
use Rattle.tp_wire.specs.declared.wire.CmFrame.TheVariants.{Rts, Cts, EndOfMsgAck, Bam, Abort, EtpRts, EtpCts, EtpDpo, EtpEoma, EtpAbort}
use Rattle.tp_wire.specs.declared.wire.Wire.{Wire}
use Rattle.tp_wire.specs.declared.wire.Wire.TheVariants.{Cm, Packet, Request, Ack}
use Rattle.seg_cut.specs.Packets.{packet_count}
use Rattle.port_table.specs.Ports.{Ports, are_full, is_open, is_paused}
use Rattle.responder.specs.Window.{most_of}
use Rattle.responder.specs.Room.{prepared, prepared_to_expire}
use Rattle.responder.specs.Steps.{stepped as connection_stepped, expired}
use Rattle.responder.specs.declared.flow.Flow.{Flow}
use Rattle.responder.specs.declared.received.Received.{Received}
use Rattle.responder.specs.declared.received.Received.TheVariants as received
use Rattle.bam_session.specs.States as bam
use Rattle.bam_session.specs.Receiving as bam-steps
use Rattle.bam_session.specs.Sending as bam-out
use Rattle.bam_session.specs.declared.outgoing.BamPumped.{BamPumped}
use Rattle.lane_core.specs.Endings.{front_ended}
use Rattle.lane_core.specs.Fire as lane-fire
use Rattle.lane_core.specs.Hear.{heard}
use Rattle.lane_core.specs.Lane.{Lane, is_full, longest_to}
use Rattle.lane_core.specs.Overrun as lane-overrun
use Rattle.lane_core.specs.Pump as lane-pump
use Rattle.lane_core.specs.Step.{LaneStep, nothing_to_do}
use Rattle.lane_core.specs.declared.message.Pending.{Pending}
use Rattle.lane_core.specs.declared.place.UnderWay.{UnderWay}
use Rattle.lane_core.specs.declared.place.UnderWay.TheVariants.{Nothing, Broadcast, Connection}
use Rattle.lane_core.specs.declared.probe.Standing.{Standing}
use Rattle.lane_core.specs.declared.probe.Standing.TheVariants.{Settled, InDoubt, Probing}
use Rattle.lane_core.specs.declared.refused.PumpRefused.{PumpRefused}
use Rattle.lane_core.specs.declared.refused.PumpRefused.TheVariants as pump
use Rattle.lane_core.specs.declared.step.Ended.{Ended}
use Rattle.session_table.specs.DueOrder.{first_due}
use Rattle.session_table.specs.Key.{session_for}
use Rattle.session_table.specs.Sessions.{state_at}
use Rattle.session_table.specs.declared.key.Key.{Key}
use Rattle.session_table.specs.declared.key.SessionKind.TheVariants as session
use Rattle.session_table.specs.declared.incoming.Incoming.{Incoming}
use Rattle.session_table.specs.declared.incoming.Incoming.TheVariants as incoming
use Rattle.message_events.specs.declared.event.Event.{Event}
use Rattle.station_lanes.specs.Lanes.{Lanes}
use Rattle.station_lanes.specs.LaneCalls.{stepped_lanes, step_at, outcome_of}
use Rattle.station_lanes.specs.LaneReaders.{refusal_at, is_due_at, due_lane, overrun_lanes, overrun_events}
use Rattle.station_sessions.specs.Given.{given_to}
use Rattle.station_sessions.specs.Opening.{key_of, refusal, is_tp_size, is_etp_size, set_for, others_than, rts_received, bam_received}
use Rattle.station_sessions.specs.Receiving.{Inbound, Reception, broadcast_settled, connection_settled, session_stepped, session_fired, flow_at, received_by, received as frame_received, fired_by, fired_at}
use Rattle.station_core.specs.Station.{Station, StationStep, by_session}
use Rattle.station_core.specs.Sending.{lane_of, pumped}
use Rattle.station_core.specs.Taking.{packet_kind, cm_taken, wire_taken, looks_at, meaning_taken, taken}
use Rattle.station_core.specs.Timers.{is_due, lane_fired, fired}
use Rattle.segment_law.specs.Segment.{Segment, place_of, has_station}
use Rattle.segment_law.specs.Calls.{Answer, no_place, pump_places, takes_by, takes, repeats_by, repeats, transmits_by, transmits, overruns, fires, pumps_by, pumps, sends, opens, closes, pauses, resumes, at_station, at_place, called, replied, applied, events_of}
use Rattle.segment_law.specs.declared.call.Call.{Call}
use Rattle.segment_law.specs.declared.call.Call.TheVariants as ask
use Rattle.segment_law.specs.declared.refusal.Refusal.{Refusal}
use Rattle.record_law.proofs.Maps.{lane_else}
use Rattle.record_law.proofs.Readings.{GivesBack, ReadsBack}
use Rattle.record_law.proofs.Tests.{either, by_option, equal_or_not}
use Rattle.broadcast_law.proofs.Carried.{IsRead, reading_tells}
use Rattle.broadcast_law.proofs.LaneSteps.{FitsUnderWay, IsLaneOf}
use Rattle.broadcast_law.proofs.Places.{AllOwn}
use Rattle.broadcast_law.proofs.Send.{AreSeven}
use Rattle.broadcast_law.proofs.Stations.{IsOwn}
use Rattle.broadcast_law.proofs.View.{GoesOn}
use Rattle.work_law.specs.ToAll.{is_broadcast, ends_well, is_cancel, BroadcastsEnd}
use Rattle.work_law.proofs.Along.{known}
use Rattle.work_law.proofs.StationCalls.{least_found}

abbrev Well : List Event → Type 0
Well events = list_all ends_well events ≡ true

well_append : (xs ys : List Event) → Well xs → Well ys → Well (xs ++ ys)
well_append xs ys h k = list_all-append ends_well xs ys ∙ (λ i. h i && k i)

given_well : (station : Address) (set : List ℕ) (m : _) → Well (given_to station set m)
given_well station [] m = refl
given_well station (k ∷ set) m = given_well station set m

-- a message to one node ends
other_well : (from to : Address) (o : Option Ended) → (to.0 ≡ 255 → ⊥) → Well (outcome_of from to o)
other_well from to None n = refl
other_well from to (Some e) n = ap (λ b. (not b || is_broadcast e.outcome) && true) (ne_eqb to.0 255 n)

-- or any, as broadcast
abbrev IsFair : Option Ended → Type 0
IsFair None = Unit {0}
IsFair (Some e) = is_broadcast e.outcome ≡ true

fair_well : (from to : Address) (o : Option Ended) → IsFair o → Well (outcome_of from to o)
fair_well from to None h = refl
fair_well from to (Some e) h = by (to.0 == 255)
  where
    by : (b : Bool) → ((not b || is_broadcast e.outcome) && true) ≡ true
    by true = ap (λ x. x && true) h
    by false = refl

-- Sessions give, and end nothing

module _ (station : Address) (key : Key) (set : List ℕ) (m : Inbound) where
  settled_well : (room : Bool) (r : Received) → Well (connection_settled station key set room m r).events
  settled_well room (received.On s frame) = refl
  settled_well room (received.Ended frame) = refl
  settled_well room (received.Complete w) = either (λ (r : Reception). Well r.events) room _ _ (given_well station set _) refl

  broadcast_well : (room : Bool) (s : bam.Incoming) (r : bam-steps.Received) → Well (broadcast_settled station key set room m s r).events
  broadcast_well room s (bam-steps.Awaits t) = refl
  broadcast_well room s (bam-steps.Completes bytes) = either (λ (r : Reception). Well r.events) room _ _ (given_well station set _) refl
  broadcast_well room s bam-steps.Drops = refl

  stepped_well : (room : Bool) (flow : Flow) (s : Incoming) (wire : Wire) (now : ℕ) → Well (session_stepped station key set room m flow s wire now).events
  stepped_well room flow (incoming.Broadcast s) wire now = broadcast_well room s (bam-steps.stepped s wire now)
  stepped_well room flow (incoming.Connection s) wire now = settled_well room (connection_stepped (prepared s wire room flow) wire room flow now)

  expired_well : (flow : Flow) (s : Incoming) (now : ℕ) → Well (session_fired station key set m flow s now).events
  expired_well flow (incoming.Broadcast s) now = refl
  expired_well flow (incoming.Connection s) now = settled_well true (expired (prepared_to_expire s flow) flow now)

received_well : (ports : Ports) (key : Key) (wire : Wire) (room : Bool) (now : ℕ) (m : Inbound) → Well (frame_received ports key wire room now m).events
received_well ports key wire room now m = by (state_at m key)
  where
    by : (o : Option (List ℕ × Incoming)) → Well (received_by o ports key wire room now m).events
    by None = refl
    by (Some v) = stepped_well ports.station key v.0 m room (flow_at ports v.0) v.1 wire now

fired_session_well : (ports : Ports) (key : Key) (now : ℕ) (m : Inbound) → Well (fired_at ports key now m).events
fired_session_well ports key now m = by (state_at m key)
  where
    by : (o : Option (List ℕ × Incoming)) → Well (fired_by o ports key now m).events
    by None = refl
    by (Some v) = expired_well ports.station key v.0 m (flow_at ports v.0) v.1 now

rts_well : (own : Address) (ports : Ports) (kind : Kind) (is_size : Bool) (from : Address) (size most pgn : ℕ) (room : Bool) (now : ℕ) (m : Inbound) → Well (rts_received own ports kind is_size from size most pgn room now m).events
rts_well own ports kind is_size from size most pgn room now m = by_option (λ (r : Reception). Well r.events) (refusal is_size room (set_for ports pgn size) (others_than m (key_of from (session_for kind)))) _ _ refl (λ r. refl)

bam_well : (ports : Ports) (from : Address) (size packets pgn : ℕ) (room : Bool) (now : ℕ) (m : Inbound) → Well (bam_received ports from size packets pgn room now m).events
bam_well ports from size packets pgn room now m = by_option (λ (r : Reception). Well r.events) (refusal (is_tp_size size packets) room (set_for ports pgn size) (others_than m (key_of from session.Broadcast))) _ _ refl (λ r. refl)

-- Frames that are taken

module _ (st : Station) (from : Address) (room : Bool) (now : ℕ) where
  heard_well : (lanes : Lanes) (wire : Wire) → from.0 < 254 → Well (outcome_of st.address from (step_at lanes from.0 (λ lane. heard lane wire now)).ended)
  heard_well lanes wire l = other_well st.address from (step_at lanes from.0 (λ lane. heard lane wire now)).ended (λ q. omega (arith, q, l))

  cm_well : (frame : CmFrame) → from.0 < 254 → Well (cm_taken st frame from room now).events
  cm_well (Rts size packets most pgn) l = rts_well st.address st.ports Tp (is_tp_size size packets) from size (most_of Tp most) pgn room now st.sessions
  cm_well (EtpRts size pgn) l = rts_well st.address st.ports Etp (is_etp_size size) from size ETP_MAX_WINDOW pgn room now st.sessions
  cm_well (Bam size packets pgn) l = bam_well st.ports from size packets pgn room now st.sessions
  cm_well (EtpDpo packets offset pgn) l = received_well st.ports (key_of from session.Etp) (Cm (EtpDpo packets offset pgn)) room now st.sessions
  cm_well (Abort r pgn) l = heard_well st.lanes (Cm (Abort r pgn)) l
  cm_well (EtpAbort r pgn) l = heard_well st.lanes (Cm (EtpAbort r pgn)) l
  cm_well (Cts granted next pgn) l = heard_well st.lanes (Cm (Cts granted next pgn)) l
  cm_well (EndOfMsgAck size packets pgn) l = heard_well st.lanes (Cm (EndOfMsgAck size packets pgn)) l
  cm_well (EtpCts granted next pgn) l = heard_well st.lanes (Cm (EtpCts granted next pgn)) l
  cm_well (EtpEoma size pgn) l = heard_well st.lanes (Cm (EtpEoma size pgn)) l

  wire_well : (wire : Wire) (to : Address) → comes_from wire from.0 ≡ true → Well (wire_taken st wire from to room now).events
  wire_well (Cm frame) to c = cm_well frame (ltb-true from.0 254 c)
  wire_well (Packet kind k bytes) to c = received_well st.ports (key_of from (packet_kind kind to)) (Packet kind k bytes) room now st.sessions
  wire_well (Request pgn) to c = refl
  wire_well (Ack control address pgn) to c = refl

taken_well : (st : Station) (f : CanFrame) (room : Bool) (now : ℕ) → Well (taken st f room now).events
taken_well st f room now = either (λ (s : StationStep). Well s.events) (looks_at st f) _ _ (by (reading f) refl) refl
  where
    by : (o : Option (Wire × Address × Address)) → reading f ≡ o → Well (meaning_taken st o room now).events
    by None e = refl
    by (Some m) e = let r : IsRead f m = reading_tells f m e in wire_well st m.1 room now m.0 m.2 r.comes

-- Timers, pumps and overruns

module _ (a : ℕ) (to : ℕ) (lane : Lane) (h : IsLaneOf a to lane) where
  never_due : (now : ℕ) → to ≡ 255 → lane-fire.is_lane_due lane now ≡ true → ⊥
  never_due now e due = by lane.under_way h.under_way due
    where
      by : (u : UnderWay) → FitsUnderWay a to u → lane-fire.due_by u lane.standing now ≡ true → ⊥
      by Nothing k q = true≢false (sym q ∙ ap (λ s. lane-fire.is_probe_due s now) (h.settled e))
      by (Broadcast s) k q = true≢false (sym q)
      by (Connection o) k q = let l = k.1 in omega (arith, e, l)

  overrun_fair : to ≡ 255 → IsFair (lane-overrun.overrun lane).1.ended
  overrun_fair e = by lane.under_way h.under_way
    where
      by : (u : UnderWay) → FitsUnderWay a to u → IsFair (lane-overrun.overrun_by u lane).1.ended
      by Nothing k = tt
      by (Broadcast s) k = tt
      by (Connection o) k = absurd (let l = k.1 in omega (arith, e, l))

pump_fair : (lane : Lane) (now : ℕ) → IsFair (lane-pump.pumped lane now).1.ended
pump_fair lane now = by lane.under_way
  where
    ended : (ms : List Pending) → IsFair (front_ended ms outcome.Broadcast)
    ended [] = tt
    ended (m ∷ ms) = refl

    idle : (s : Standing) (ms : List Pending) → IsFair (lane-pump.idle_pumped s ms lane now).1.ended
    idle Settled (m ∷ ms) = either (λ (x : Lane × LaneStep). IsFair x.1.ended) (lane.to == 255) _ _ tt tt
    idle InDoubt (m ∷ ms) = tt
    idle (Probing count timer) (m ∷ ms) = tt
    idle Settled [] = tt
    idle InDoubt [] = tt
    idle (Probing count timer) [] = tt

    packet : (s : bam.Outgoing) → IsFair (lane-pump.after_packet lane (bam-out.pumped s (lane-pump.front_bytes lane.pending) now)).1.ended
    packet s =
        either (λ (x : BamPumped). IsFair (lane-pump.after_packet lane x).1.ended) (not (is_timer_due s.gap now)) _ _ tt
        (either (λ (x : BamPumped). IsFair (lane-pump.after_packet lane x).1.ended) (s.next == packet_count s.len) _ _ (ended lane.pending) tt)

    by : (u : UnderWay) → IsFair (lane-pump.pumped_by u lane now).1.ended
    by Nothing = idle lane.standing lane.pending
    by (Broadcast s) = packet s
    by (Connection o) = tt

stepped_else : (lanes : Lanes) (to q : ℕ) (step : Lane → Lane × LaneStep) → (q ≡ to → ⊥) → finmap.get (stepped_lanes lanes to step) q ≡ finmap.get lanes q
stepped_else lanes to q step n = by (finmap.get lanes to)
  where
    by : (o : Option Lane) → finmap.get (elim o as (λ (_ : Option Lane). Lanes) [ None ↦ lanes | Some lane ↦ finmap.insert lanes to (step lane).0 ]) q ≡ finmap.get lanes q
    by None = refl
    by (Some lane) = lane_else lanes to q (step lane).0 n

above_stays : (lanes : Lanes) (n q : ℕ) → n ≤ q → finmap.get (overrun_lanes lanes n) q ≡ finmap.get lanes q
unfolding overrun_lanes
above_stays lanes zero q l = refl
above_stays lanes (suc n) q l = stepped_else (overrun_lanes lanes n) n q lane-overrun.overrun (λ e. omega (arith, e, l)) ∙ above_stays lanes n q (omega (arith, l))

module _ (a : Address) (st : Station) (h : IsOwn a st) where
  pump_well : (to : Address) (now : ℕ) → Well (pumped st to now).events
  pump_well to now = fair_well st.address to _ (by (finmap.get st.lanes to.0))
    where
      by : (o : Option Lane) → IsFair (elim o as (λ (_ : Option Lane). LaneStep) [ None ↦ nothing_to_do | Some lane ↦ (lane-pump.pumped lane now).1 ]).ended
      by None = tt
      by (Some lane) = pump_fair lane now

  fire_lane_well : (now to : ℕ) → is_due_at st.lanes now to ≡ true → Well (outcome_of st.address (record { 0 = to }) (step_at st.lanes to (λ lane. lane-fire.fired lane now)).ended)
  fire_lane_well now to due = by-case (equal_or_not to 255)
    where
      lane_at : (o : Option Lane) → finmap.get st.lanes to ≡ o → (elim o as (λ (_ : Option Lane). Bool) [ None ↦ false | Some lane ↦ lane-fire.is_lane_due lane now ]) ≡ true → to ≡ 255 → ⊥
      lane_at None e q is = true≢false (sym q)
      lane_at (Some lane) e q is = never_due a.0 to lane (h.lanes to lane e) now is q

      by-case : (to ≡ 255) ⊎ (to ≡ 255 → ⊥) → Well (outcome_of st.address (record { 0 = to }) (step_at st.lanes to (λ lane. lane-fire.fired lane now)).ended)
      by-case (inl is) = absurd (lane_at (finmap.get st.lanes to) refl due is)
      by-case (inr n) = other_well st.address (record { 0 = to }) _ n

  fire_well : (now : ℕ) → Well (fired st now).events
  fire_well now = by_option (λ (s : StationStep). Well s.events) (first_due st.sessions now) (lane_fired st now (due_lane st.lanes now)) (λ key. by_session st (fired_at st.ports key now st.sessions)) (by (due_lane st.lanes now) refl) (λ key. fired_session_well st.ports key now st.sessions)
    where
      by : (o : Option ℕ) → due_lane st.lanes now ≡ o → Well (lane_fired st now o).events
      by None e = refl
      by (Some to) e = fire_lane_well now to (least_found (is_due_at st.lanes now) 256 to e).0

  overrun_lane_well : (n : ℕ) (o : Option Lane) → finmap.get st.lanes n ≡ o → Well (outcome_of st.address (record { 0 = n }) (elim o as (λ (_ : Option Lane). LaneStep) [ None ↦ nothing_to_do | Some lane ↦ (lane-overrun.overrun lane).1 ]).ended)
  overrun_lane_well n None e = refl
  overrun_lane_well n (Some lane) e = by (equal_or_not n 255)
    where
      by : (n ≡ 255) ⊎ (n ≡ 255 → ⊥) → Well (outcome_of st.address (record { 0 = n }) (lane-overrun.overrun lane).1.ended)
      by (inl is) = fair_well st.address (record { 0 = n }) _ (overrun_fair a.0 n lane (h.lanes n lane e) is)
      by (inr apart) = other_well st.address (record { 0 = n }) _ apart

  overrun_well : (n : ℕ) → Well (overrun_events st.address st.lanes n)
  unfolding overrun_events
  overrun_well zero = refl
  overrun_well (suc n) = well_append (overrun_events st.address st.lanes n) (outcome_of st.address (record { 0 = n }) (step_at (overrun_lanes st.lanes n) n lane-overrun.overrun).ended) (overrun_well n)
      (subst (λ (o : Option Lane). Well (outcome_of st.address (record { 0 = n }) (elim o as (λ (_ : Option Lane). LaneStep) [ None ↦ nothing_to_do | Some lane ↦ (lane-overrun.overrun lane).1 ]).ended)) (sym (above_stays st.lanes n n (omega arith))) (overrun_lane_well n (finmap.get st.lanes n) refl))

-- Calls

module _ (seg : Segment) (each : AllOwn seg) where
  abbrev Tells : Answer → Type 0
  Tells (Err cause) = Unit {0}
  Tells (Ok step) = Well (events_of step.1)

  or_tells : (b : Bool) (cause : Refusal) (x : Answer) → Tells x → Tells (cond b (Err cause) x)
  or_tells true cause x k = tt
  or_tells false cause x k = k

  at_tells : (a : Address) (does : ℕ → Station → Answer) → ((i : ℕ) (st : Station) → slice_get seg.stations i ≡ Some st → Tells (does i st)) → Tells (at_place seg (place_of seg a) does)
  at_tells a does k = by (place_of seg a)
    where
      there : (i : ℕ) (o : Option Station) → slice_get seg.stations i ≡ o → Tells (at_station o (does i))
      there i None e = tt
      there i (Some st) e = k i st e

      by : (o : Option ℕ) → Tells (at_place seg o does)
      by None = tt
      by (Some i) = there i (slice_get seg.stations i) refl

  take_tells : (i : ℕ) (st : Station) (room : Bool) (o : Option CanFrame) → Tells (takes_by seg room i st o)
  take_tells i st room None = tt
  take_tells i st room (Some f) = or_tells (no_place st) _ _ (taken_well st f room seg.now)

  again_tells : (i : ℕ) (st : Station) (room : Bool) (o : Option CanFrame) → Tells (repeats_by seg room i st o)
  again_tells i st room None = tt
  again_tells i st room (Some f) = or_tells (no_place st) _ _ (taken_well st f room seg.now)

  put_tells : (i : ℕ) (st : Station) (o : Option CanFrame) → Tells (transmits_by seg i st o)
  put_tells i st None = tt
  put_tells i st (Some f) = or_tells (bus.is_full seg.bus) _ _ refl

  pump_tells : (i : ℕ) (st : Station) → slice_get seg.stations i ≡ Some st → (to : Address) (o : Option PumpRefused) → Tells (pumps_by seg to i st o)
  pump_tells i st at to (Some pump.NothingToSend) = tt
  pump_tells i st at to (Some pump.NotYet) = tt
  pump_tells i st at to None = or_tells (nat_lt (free_places st.queue) pump_places) _ _ (pump_well st.address st (each i st at) to seg.now)

  send_tells : (i : ℕ) (st : Station) (to : Address) (pgn : ℕ) (bytes : List ℕ) → Tells (sends seg to pgn bytes i st)
  send_tells i st to pgn bytes =
      or_tells (to.0 == null_address) _ _
      (or_tells (st.address.0 == to.0) _ _
      (or_tells (nat_lt (length bytes) MIN_SIZE) _ _
      (or_tells (nat_lt (longest_to to.0) (length bytes)) _ _
      (or_tells (is_full (lane_of st to)) _ _ refl))))

  call_tells : (call : Call) → is_cancel call ≡ false → Tells (called seg call)
  unfolding called
  call_tells (ask.Take a room) is = at_tells a (takes seg room) (λ i st at. take_tells i st room (bus.next_frame seg.bus i))
  call_tells (ask.TakeAgain a room) is = at_tells a (repeats seg room) (λ i st at. again_tells i st room (bus.frame_again seg.bus i))
  call_tells (ask.Transmit a) is = at_tells a (transmits seg) (λ i st at. put_tells i st (front st.queue))
  call_tells (ask.Overrun a n) is = at_tells a (overruns seg n) (λ i st at. or_tells (nat_lt (bus.waiting seg.bus i) n) _ _ (overrun_well st.address st (each i st at) 256))
  call_tells (ask.Pump a to) is = at_tells a (pumps seg to) (λ i st at. or_tells (to.0 == null_address) _ _ (pump_tells i st at to (refusal_at st.lanes to.0 seg.now)))
  call_tells (ask.Fire a) is = at_tells a (fires seg) (λ i st at. or_tells (not (is_due st seg.now)) _ _ (or_tells (no_place st) _ _ (fire_well st.address st (each i st at) seg.now)))
  call_tells (ask.Tick n) is = or_tells (not (nat_lt (seg.now + n) (2 ^ 64))) _ _ refl
  call_tells (ask.Open a pgn max_len) is = at_tells a (opens seg pgn max_len) (λ i st at. or_tells (are_full st.ports) _ _ refl)
  call_tells (ask.Close port) is = at_tells port.station (closes seg port.number) (λ i st at. or_tells (not (is_open st.ports port.number)) _ _ refl)
  call_tells (ask.Send from to pgn bytes) is = at_tells from (sends seg to pgn bytes) (λ i st at. send_tells i st to pgn bytes)
  call_tells (ask.Cancel from to number) is = absurd (true≢false is)
  call_tells (ask.Inject f) is = or_tells (has_station seg (meaning_of f.id).from) _ _ (or_tells (bus.is_full seg.bus) _ _ refl)
  call_tells (ask.Pause port) is = at_tells port.station (pauses seg port.number) (λ i st at. or_tells (not (is_open st.ports port.number)) _ _ (or_tells (is_paused st.ports port.number) _ _ refl))
  call_tells (ask.Resume port) is = at_tells port.station (resumes seg port.number) (λ i st at. or_tells (not (is_open st.ports port.number)) _ _ (or_tells (not (is_paused st.ports port.number)) _ _ refl))

  tells : (call : Call) → is_cancel call ≡ false → Well (events_of (applied seg call).1)
  tells call is = by (called seg call) (call_tells call is)
    where
      by : (x : Answer) → Tells x → Well (events_of (replied seg x).1)
      by (Err cause) k = refl
      by (Ok step) k = k

module _ (goes : GoesOn) (gives : GivesBack) (reads : ReadsBack) (seven : AreSeven) where
  pub broadcasts_end : BroadcastsEnd
  broadcasts_end addresses steps seg call h is not_cancel = tells seg (known goes gives reads seven addresses steps seg h).0 call not_cancel
