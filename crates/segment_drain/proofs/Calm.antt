-- Without a paused port and a session on hold, no call but a Pause leaves one, and no timer asks a sender to wait.
use Rattle.std.proofs.Common.{◌≡◌, ◌⊎◌, inl, inr, ℕ, zero, suc, ◌+◌, ◌^◌, ◌==◌, nat_lt, Bool, true, false, cond, not, ◌&&◌, ◌||◌, List, [], ◌∷◌, ◌++◌, map, length, set, Option, Some, None, Ok, Err, refl, sym, ap, ◌∙◌, subst, true≢false}
use Rattle.std.specs.Prelude.{slice_get, option_to_list}
use Rattle.std.specs.List.{list_any}
use Rattle.std.proofs.lemmas.Option.{same_Some, none-some}
use Rattle.std.specs.FinMap as finmap
use Rattle.bus_frame.specs.Frames.{CanFrame}
use Rattle.pgn_ids.specs.Address.{null_address}
use Rattle.pgn_ids.specs.Pgn.{clean}
use Rattle.pgn_ids.specs.Identifier.{meaning_of}
use Rattle.pgn_ids.specs.declared.address.Address.{Address}
use Rattle.tx_queue.specs.Queue.{free_places, front, behind}
use Rattle.bus_order.specs.Bus as bus
use Rattle.tp_wire.specs.Aborts.{connection_abort}
use Rattle.tp_wire.specs.Kinds.{is_same_kind}
use Rattle.tp_wire.specs.Reason.{reason_byte}
use Rattle.tp_wire.specs.Reading.{reading}
use Rattle.tp_wire.specs.Rows.{written}
use Rattle.tp_wire.specs.declared.constants.TheConstants.{MIN_SIZE, ETP_MAX_WINDOW}
use Rattle.tp_wire.specs.declared.reason.AbortReason.TheVariants as reason
use Rattle.tp_wire.specs.declared.wire.Kind.{Kind}
use Rattle.tp_wire.specs.declared.wire.Kind.TheVariants.{Tp, Etp}
use Rattle.tp_wire.specs.declared.wire.CmFrame.{CmFrame}
use Rattle.tp_wire.specs.declared.wire.CmFrame.TheVariants.{Rts, Cts, EndOfMsgAck, Bam, Abort, EtpRts, EtpCts, EtpDpo, EtpEoma, EtpAbort}
use Rattle.tp_wire.specs.declared.wire.Wire.{Wire}
use Rattle.tp_wire.specs.declared.wire.Wire.TheVariants.{Cm, Packet, Request, Ack}
use Rattle.seg_cut.specs.Join.{wants_last}
use Rattle.port_table.specs.Ports.{Ports, has_paused, marked, less_port, are_full, with_port, without_port, is_open, is_paused, with_paused}
use Rattle.port_table.specs.PortSet.{has_number, without_number}
use Rattle.port_table.specs.declared.port.Port.{Port}
use Rattle.responder.specs.Unfinished.{Unfinished, begun, number_of, is_of_another}
use Rattle.responder.specs.Window.{most_of}
use Rattle.responder.specs.Asking.{asking}
use Rattle.responder.specs.States as states
use Rattle.responder.specs.AwaitPacket.{is_wrong_dpo, on_dpo, on_packet}
use Rattle.responder.specs.Steps.{awaiting_stepped}
use Rattle.responder.specs.Room.{first_join, prepared_wait}
use Rattle.responder.specs.declared.flow.Flow.{Flow}
use Rattle.responder.specs.declared.flow.Flow.TheVariants.{Open}
use Rattle.responder.specs.declared.in_state.InState.TheVariants.{AwaitPacket, Holding}
use Rattle.responder.specs.declared.received.Received.{Received}
use Rattle.responder.specs.declared.received.Received.TheVariants.{On, Complete, Ended}
use Rattle.bam_session.specs.States as bam
use Rattle.bam_session.specs.Receiving as bam-steps
use Rattle.originator.specs.Link.{Link, abort_frame as link_abort}
use Rattle.originator.specs.Readers.{link_of}
use Rattle.lane_core.specs.Lane.{Lane, is_full, longest_to}
use Rattle.lane_core.specs.Step.{LaneStep, nothing_to_do}
use Rattle.lane_core.specs.Fire as lane-fire
use Rattle.lane_core.specs.Probe.{most_requests, request_frame}
use Rattle.lane_core.specs.declared.place.UnderWay.{UnderWay}
use Rattle.lane_core.specs.declared.place.UnderWay.TheVariants.{Nothing, Broadcast, Connection}
use Rattle.lane_core.specs.declared.probe.Standing.{Standing}
use Rattle.lane_core.specs.declared.probe.Standing.TheVariants.{Settled, InDoubt, Probing}
use Rattle.lane_core.specs.declared.refused.PumpRefused.{PumpRefused}
use Rattle.lane_core.specs.declared.refused.PumpRefused.TheVariants as pump
use Rattle.session_table.specs.DueOrder.{first_due}
use Rattle.session_table.specs.Incoming.{pgn_of}
use Rattle.session_table.specs.Key.{session_for}
use Rattle.session_table.specs.Sessions.{state_at}
use Rattle.session_table.specs.declared.key.Key.{Key}
use Rattle.session_table.specs.declared.key.SessionKind.{SessionKind}
use Rattle.session_table.specs.declared.key.SessionKind.TheVariants as session
use Rattle.session_table.specs.declared.incoming.Incoming.{Incoming}
use Rattle.session_table.specs.declared.incoming.Incoming.TheVariants as incoming
use Rattle.station_lanes.specs.LaneReaders.{refusal_at, is_pending_at, queues_abort_at, due_lane}
use Rattle.station_sessions.specs.Steps.{flow_of}
use Rattle.station_sessions.specs.Opening.{key_of, refusal, is_tp_size, is_etp_size, set_for, others_than, peer_of, rts_received, bam_received, opening_received}
use Rattle.station_sessions.specs.Receiving.{Inbound, Reception, broadcast_settled, connection_settled, session_stepped, session_fired, flow_at, received_by, received, fired_by, fired_at, aborted_at, unbound_by, unbound_at}
use Rattle.station_core.specs.Station.{Station, StationStep, by_session}
use Rattle.station_core.specs.Sending.{lane_of, sent, pumped, cancelled}
use Rattle.station_core.specs.Closing.{unbound_session, closed_below, closed}
use Rattle.station_core.specs.Taking.{packet_kind, cm_taken, wire_taken, looks_at, meaning_taken, taken}
use Rattle.station_core.specs.Overruns.{overrun}
use Rattle.station_core.specs.Timers.{is_due, lane_fired, fired}
use Rattle.segment_law.specs.Segment.{Segment, place_of, has_station, new_segment, rising}
use Rattle.segment_law.specs.Calls.{Answer, no_place, pump_places, takes_by, takes, transmits_by, transmits, overruns, fires, pumps_by, pumps, opens, closes, sends, repeats_by, repeats, cancels, resumes, at_station, at_place, called, replied, applied}
use Rattle.segment_law.specs.declared.call.Call.{Call}
use Rattle.segment_law.specs.declared.call.Call.TheVariants as ask
use Rattle.segment_law.specs.declared.refusal.Refusal.{Refusal}
use Rattle.segment_law.specs.Record.{Step, Record, StandsAt}
use Rattle.record_law.proofs.AlongRecords.{at_record}
use Rattle.record_law.proofs.Segments.{new_at}
use Rattle.work_law.specs.Rest.{HasRested}
use Rattle.segment_law.proofs.Reaching.{slice_get_same, slice_get_other}
use Rattle.record_law.proofs.Maps.{of_each_put, of_each_dropped, of_each_none}
use Rattle.record_law.proofs.Tests.{either, by_option, equal_or_not}
use Rattle.segment_drain.specs.Calm.{is_on_hold, IsCalm, AreCalm, AreUnpaused, is_pause, never_paused}
use Rattle.segment_drain.specs.Chosen.{is_hold}
use Rattle.segment_drain.specs.Drains.{is_drain_call}

-- Without a paused port a session may go on

none_paused : (set : List ℕ) (ps : List Port) → has_paused ps ≡ false → list_any (λ p. p.paused && has_number set p.number) ps ≡ false
none_paused set [] e = refl
none_paused set (p ∷ ps) e = by p.paused e (none_paused set ps)
  where
    by : (b : Bool) → (b || has_paused ps) ≡ false → (has_paused ps ≡ false → list_any (λ p. p.paused && has_number set p.number) ps ≡ false) → ((b && has_number set p.number) || list_any (λ p. p.paused && has_number set p.number) ps) ≡ false
    by true q rest = absurd (true≢false q)
    by false q rest = rest q

open_flow : (ports : Ports) (set : List ℕ) → has_paused ports.open_ports ≡ false → flow_at ports set ≡ Open
open_flow ports set e = ap flow_of (none_paused set ports.open_ports e)

-- An abort or a Request asks no sender to wait

abort_no_hold : (kind : Kind) (byte pgn from to : ℕ) → is_hold (Some (written (Cm (connection_abort kind byte pgn)) from to)) ≡ false
unfolding written
abort_no_hold Tp byte pgn from to = refl
abort_no_hold Etp byte pgn from to = refl

link_no_hold : (link : Link) → is_hold (Some (link_abort link reason.Timeout)) ≡ false
link_no_hold link = abort_no_hold link.kind (reason_byte reason.Timeout) link.pgn link.from link.to

request_no_hold : (lane : Lane) → is_hold (Some (request_frame lane)) ≡ false
unfolding written
request_no_hold lane = refl

-- Sessions of which none is on hold

abbrev pub AreAwake : Inbound → Type 0
AreAwake m = (key : Key) (v : List ℕ × Incoming) → state_at m key ≡ Some v → is_on_hold v.1 ≡ false

put_awake : (m : Inbound) (key : Key) (v : List ℕ × Incoming) → is_on_hold v.1 ≡ false → AreAwake m → AreAwake (finmap.insert m key (Some v))
put_awake m key v h each = of_each_put (λ k w. is_on_hold w.1 ≡ false) m key v h each

dropped_awake : (m : Inbound) (key : Key) → AreAwake m → AreAwake (finmap.remove m key)
dropped_awake m key each = of_each_dropped (λ k w. is_on_hold w.1 ≡ false) m key each

abbrev GoesAwake : Received → Type 0
GoesAwake (On (AwaitPacket s) frame) = Unit {0}
GoesAwake (On (Holding s) frame) = ⊥
GoesAwake (Complete w) = Unit {0}
GoesAwake (Ended frame) = Unit {0}

packet_awake : (s : states.AwaitPacket) (number : ℕ) (bytes : List ℕ) (room : Bool) (now : ℕ) → GoesAwake (on_packet s number bytes room Open now)
packet_awake s number bytes room now =
    either GoesAwake (nat_lt number s.message.join.next) _ _ tt
    (either GoesAwake (nat_lt s.message.join.next number || nat_lt s.until s.message.join.next) _ _ tt
    (either GoesAwake (not (wants_last s.message.join) && nat_lt number s.until) _ _ tt
    (either GoesAwake (not (wants_last s.message.join) && room) _ _ tt
    (either GoesAwake (not (wants_last s.message.join)) _ _ tt tt))))

dpo_awake : (s : states.AwaitPacket) (packets offset pgn : ℕ) → GoesAwake (on_dpo s packets offset pgn)
dpo_awake s packets offset pgn =
    either GoesAwake (is_of_another s.message.peer pgn) _ _ tt
    (either GoesAwake (is_wrong_dpo s.message.join.next s.granted packets offset) _ _ tt tt)

step_awake : (s : states.AwaitPacket) (wire : Wire) (room : Bool) (now : ℕ) → GoesAwake (awaiting_stepped s wire room Open now)
step_awake s (Packet kind sequence bytes) room now = either GoesAwake (is_same_kind s.message.kind kind) _ _ (packet_awake s (number_of s.message sequence) bytes room now) tt
step_awake s (Cm (EtpDpo packets offset pgn)) room now = either GoesAwake (is_same_kind s.message.kind Etp) _ _ (dpo_awake s packets offset pgn) tt
step_awake s (Cm (Rts size packets most pgn)) room now = tt
step_awake s (Cm (Cts granted next pgn)) room now = tt
step_awake s (Cm (EndOfMsgAck size packets pgn)) room now = tt
step_awake s (Cm (Bam size packets pgn)) room now = tt
step_awake s (Cm (Abort r pgn)) room now = tt
step_awake s (Cm (EtpRts size pgn)) room now = tt
step_awake s (Cm (EtpCts granted next pgn)) room now = tt
step_awake s (Cm (EtpEoma size pgn)) room now = tt
step_awake s (Cm (EtpAbort r pgn)) room now = tt
step_awake s (Request pgn) room now = tt
step_awake s (Ack control address pgn) room now = tt

module _ (station : Address) (key : Key) (set : List ℕ) (m : Inbound) (each : AreAwake m) where
  settled_awake : (room : Bool) (r : Received) → GoesAwake r → AreAwake (connection_settled station key set room m r).sessions
  settled_awake room (On (AwaitPacket s) frame) h = put_awake m key (set, incoming.Connection (AwaitPacket s)) refl each
  settled_awake room (On (Holding s) frame) h = absurd h
  settled_awake room (Complete w) h = either (λ (r : Reception). AreAwake r.sessions) room _ _ (dropped_awake m key each) (dropped_awake m key each)
  settled_awake room (Ended frame) h = dropped_awake m key each

  broadcast_awake : (room : Bool) (s : bam.Incoming) (r : bam-steps.Received) → AreAwake (broadcast_settled station key set room m s r).sessions
  broadcast_awake room s (bam-steps.Awaits t) = put_awake m key (set, incoming.Broadcast t) refl each
  broadcast_awake room s (bam-steps.Completes bytes) = either (λ (r : Reception). AreAwake r.sessions) room _ _ (dropped_awake m key each) (dropped_awake m key each)
  broadcast_awake room s bam-steps.Drops = dropped_awake m key each

  stepped_awake : (room : Bool) (s : Incoming) (wire : Wire) (now : ℕ) → is_on_hold s ≡ false → AreAwake (session_stepped station key set room m Open s wire now).sessions
  stepped_awake room (incoming.Broadcast s) wire now h = broadcast_awake room s (bam-steps.stepped s wire now)
  stepped_awake room (incoming.Connection (AwaitPacket s)) wire now h = settled_awake room (awaiting_stepped (prepared_wait s wire room Open) wire room Open now) (step_awake (prepared_wait s wire room Open) wire room now)
  stepped_awake room (incoming.Connection (Holding s)) wire now h = absurd (true≢false h)

  -- the timer of one fires: it ends, with an abort or nothing
  expired_awake : (flow : Flow) (s : Incoming) (now : ℕ) → is_on_hold s ≡ false → AreAwake (session_fired station key set m flow s now).sessions × (is_hold (front (option_to_list (session_fired station key set m flow s now).frame)) ≡ false)
  expired_awake flow (incoming.Broadcast s) now h = (dropped_awake m key each, refl)
  expired_awake flow (incoming.Connection (AwaitPacket s)) now h = (dropped_awake m key each, abort_no_hold s.message.kind (reason_byte reason.Timeout) s.message.peer.pgn s.message.peer.to s.message.peer.from)
  expired_awake flow (incoming.Connection (Holding s)) now h = absurd (true≢false h)

module _ (ports : Ports) (unpaused : has_paused ports.open_ports ≡ false) (m : Inbound) (each : AreAwake m) where
  received_awake : (key : Key) (wire : Wire) (room : Bool) (now : ℕ) → AreAwake (received ports key wire room now m).sessions
  received_awake key wire room now = by (state_at m key) refl
    where
      by : (o : Option (List ℕ × Incoming)) → state_at m key ≡ o → AreAwake (received_by o ports key wire room now m).sessions
      by None e = each
      by (Some v) e = subst (λ (flow : Flow). AreAwake (session_stepped ports.station key v.0 room m flow v.1 wire now).sessions) (sym (open_flow ports v.0 unpaused)) (stepped_awake ports.station key v.0 m each room v.1 wire now (each key v e))

  aborted_awake : (key : Key) (pgn : ℕ) → AreAwake (aborted_at key pgn m)
  aborted_awake key pgn = by_option AreAwake (state_at m key) m (λ v. cond (clean (pgn_of v.1) == clean pgn) (finmap.remove m key) m) each (λ v. either AreAwake (clean (pgn_of v.1) == clean pgn) (finmap.remove m key) m (dropped_awake m key each) each)

  rts_awake : (own : Address) (kind : Kind) (is_size : Bool) (from : Address) (size most pgn : ℕ) (room : Bool) (now : ℕ) → AreAwake (rts_received own ports kind is_size from size most pgn room now m).sessions
  rts_awake own kind is_size from size most pgn room now =
      by_option (λ (r : Reception). AreAwake r.sessions) (refusal is_size room (set_for ports pgn size) (others_than m (key_of from (session_for kind)))) _ _
      (put_awake m (key_of from (session_for kind)) (set_for ports pgn size, incoming.Connection (asking (message (flow_at ports (set_for ports pgn size))) (flow_at ports (set_for ports pgn size)) now)) (ap (λ (f : Flow). is_on_hold (incoming.Connection (asking (message f) f now))) (open_flow ports (set_for ports pgn size) unpaused)) each)
      (λ r. dropped_awake m (key_of from (session_for kind)) each)
    where
      message : Flow → Unfinished
      message flow = begun kind (peer_of own from pgn) most (first_join kind size flow)

  bam_awake : (from : Address) (size packets pgn : ℕ) (room : Bool) (now : ℕ) → AreAwake (bam_received ports from size packets pgn room now m).sessions
  bam_awake from size packets pgn room now =
      by_option (λ (r : Reception). AreAwake r.sessions) (refusal (is_tp_size size packets) room (set_for ports pgn size) (others_than m (key_of from session.Broadcast))) _ _
      (put_awake m (key_of from session.Broadcast) _ refl each)
      (λ r. dropped_awake m (key_of from session.Broadcast) each)

  opening_awake : (own : Address) (frame : CmFrame) (from : Address) (room : Bool) (now : ℕ) → AreAwake (opening_received own ports frame from room now m).sessions
  opening_awake own (Rts size packets most pgn) from room now = rts_awake own Tp (is_tp_size size packets) from size (most_of Tp most) pgn room now
  opening_awake own (EtpRts size pgn) from room now = rts_awake own Etp (is_etp_size size) from size ETP_MAX_WINDOW pgn room now
  opening_awake own (Bam size packets pgn) from room now = bam_awake from size packets pgn room now
  opening_awake own (Cts granted next pgn) from room now = each
  opening_awake own (EndOfMsgAck size packets pgn) from room now = each
  opening_awake own (Abort r pgn) from room now = each
  opening_awake own (EtpCts granted next pgn) from room now = each
  opening_awake own (EtpDpo packets offset pgn) from room now = each
  opening_awake own (EtpEoma size pgn) from room now = each
  opening_awake own (EtpAbort r pgn) from room now = each

-- Ports that open, and ports that are resumed

opened_unpaused : (ps : List Port) (p : Port) → has_paused ps ≡ false → p.paused ≡ false → has_paused (ps ++ p ∷ []) ≡ false
opened_unpaused [] p e q = ap (λ b. b || false) q
opened_unpaused (x ∷ xs) p e q = by x.paused e (λ n. opened_unpaused xs p n q)
  where
    by : (b : Bool) → (b || has_paused xs) ≡ false → (has_paused xs ≡ false → has_paused (xs ++ p ∷ []) ≡ false) → (b || has_paused (xs ++ p ∷ [])) ≡ false
    by true n rest = absurd (true≢false n)
    by false n rest = rest n

resumed_unpaused : (number : ℕ) (ps : List Port) → has_paused ps ≡ false → has_paused (map (marked number false) ps) ≡ false
resumed_unpaused number [] e = refl
resumed_unpaused number (x ∷ xs) e = by x.paused refl e (resumed_unpaused number xs)
  where
    mark : (b : Bool) → x.paused ≡ false → (cond {A = Port} b (record x { paused = false }) x).paused ≡ false
    mark true q = refl
    mark false q = q

    by : (b : Bool) → x.paused ≡ b → (b || has_paused xs) ≡ false → (has_paused xs ≡ false → has_paused (map (marked number false) xs) ≡ false) → ((marked number false x).paused || has_paused (map (marked number false) xs)) ≡ false
    by true is n rest = absurd (true≢false n)
    by false is n rest = ap (λ b. b || has_paused (map (marked number false) xs)) (mark (x.number == number) is) ∙ rest n

closed_unpaused : (number : ℕ) (ps : List Port) → has_paused ps ≡ false → has_paused (less_port number ps) ≡ false
closed_unpaused number [] e = refl
closed_unpaused number (x ∷ xs) e = by x.paused refl e (closed_unpaused number xs)
  where
    keep : (b : Bool) → x.paused ≡ false → has_paused (less_port number xs) ≡ false → has_paused (cond {A = List Port} b (x ∷ less_port number xs) (less_port number xs)) ≡ false
    keep true q rest = ap (λ t. t || has_paused (less_port number xs)) q ∙ rest
    keep false q rest = rest

    by : (b : Bool) → x.paused ≡ b → (b || has_paused xs) ≡ false → (has_paused xs ≡ false → has_paused (less_port number xs) ≡ false) → has_paused (less_port number (x ∷ xs)) ≡ false
    by true is n rest = absurd (true≢false n)
    by false is n rest = keep (not (x.number == number)) is (rest n)

-- Stations

-- a station keeps its address, and has no paused port and no session on hold
pub record Keeps (st new : Station) : Type 0 where
  pub address : new.address ≡ st.address
  pub calm : IsCalm new

module _ (st : Station) (calm : IsCalm st) where
  stays : (new : Station) → new.address ≡ st.address → new.ports ≡ st.ports → new.sessions ≡ st.sessions → Keeps st new
  stays new a p s = record { address = a; calm = record { unpaused = ap (λ (ports : Ports). has_paused ports.open_ports) p ∙ calm.unpaused; sessions = subst AreAwake (sym s) calm.sessions } }

  cm_keeps : (frame : CmFrame) (from : Address) (room : Bool) (now : ℕ) → Keeps st (cm_taken st frame from room now).station
  cm_keeps (Rts size packets most pgn) from room now = record { address = refl; calm = record { unpaused = calm.unpaused; sessions = opening_awake st.ports calm.unpaused st.sessions calm.sessions st.address (Rts size packets most pgn) from room now } }
  cm_keeps (Bam size packets pgn) from room now = record { address = refl; calm = record { unpaused = calm.unpaused; sessions = opening_awake st.ports calm.unpaused st.sessions calm.sessions st.address (Bam size packets pgn) from room now } }
  cm_keeps (EtpRts size pgn) from room now = record { address = refl; calm = record { unpaused = calm.unpaused; sessions = opening_awake st.ports calm.unpaused st.sessions calm.sessions st.address (EtpRts size pgn) from room now } }
  cm_keeps (EtpDpo packets offset pgn) from room now = record { address = refl; calm = record { unpaused = calm.unpaused; sessions = received_awake st.ports calm.unpaused st.sessions calm.sessions (key_of from session.Etp) (Cm (EtpDpo packets offset pgn)) room now } }
  cm_keeps (Abort r pgn) from room now = record { address = refl; calm = record { unpaused = calm.unpaused; sessions = aborted_awake st.ports calm.unpaused st.sessions calm.sessions (key_of from session.Tp) pgn } }
  cm_keeps (EtpAbort r pgn) from room now = record { address = refl; calm = record { unpaused = calm.unpaused; sessions = aborted_awake st.ports calm.unpaused st.sessions calm.sessions (key_of from session.Etp) pgn } }
  cm_keeps (Cts granted next pgn) from room now = stays _ refl refl refl
  cm_keeps (EndOfMsgAck size packets pgn) from room now = stays _ refl refl refl
  cm_keeps (EtpCts granted next pgn) from room now = stays _ refl refl refl
  cm_keeps (EtpEoma size pgn) from room now = stays _ refl refl refl

  wire_keeps : (wire : Wire) (from to : Address) (room : Bool) (now : ℕ) → Keeps st (wire_taken st wire from to room now).station
  wire_keeps (Cm frame) from to room now = cm_keeps frame from room now
  wire_keeps (Packet kind k bytes) from to room now = record { address = refl; calm = record { unpaused = calm.unpaused; sessions = received_awake st.ports calm.unpaused st.sessions calm.sessions (key_of from (packet_kind kind to)) (Packet kind k bytes) room now } }
  wire_keeps (Request pgn) from to room now = either (Keeps st) (to.0 == st.address.0) _ _ (stays _ refl refl refl) (stays st refl refl refl)
  wire_keeps (Ack control address pgn) from to room now = either (Keeps st) (address.0 == st.address.0 || to.0 == st.address.0) _ _ (stays _ refl refl refl) (stays st refl refl refl)

  taken_keeps : (f : CanFrame) (room : Bool) (now : ℕ) → Keeps st (taken st f room now).station
  taken_keeps f room now = either (λ (s : StationStep). Keeps st s.station) (looks_at st f) _ _ (by (reading f)) (stays st refl refl refl)
    where
      by : (o : Option (Wire × Address × Address)) → Keeps st (meaning_taken st o room now).station
      by None = stays st refl refl refl
      by (Some m) = wire_keeps m.0 m.1 m.2 room now

  -- a timer that fires asks nobody to wait
  abbrev pub Fires : StationStep → Type 0
  Fires step = Keeps st step.station × (st.queue ≡ [] → is_hold (front step.station.queue) ≡ false)

  lane_no_hold : (lane : Lane) (now : ℕ) → is_hold (front (lane-fire.fired lane now).1.frames) ≡ false
  lane_no_hold lane now = by lane.under_way
    where
      asks : (s : Standing) → is_hold (front (lane-fire.probe_fired s lane now).1.frames) ≡ false
      asks Settled = refl
      asks InDoubt = refl
      asks (Probing count timer) = either (λ (x : Lane × LaneStep). is_hold (front x.1.frames) ≡ false) (nat_lt count most_requests) _ _ (request_no_hold lane) refl

      by : (u : UnderWay) → is_hold (front (lane-fire.fired_by u lane now).1.frames) ≡ false
      by Nothing = asks lane.standing
      by (Broadcast s) = refl
      by (Connection s) = link_no_hold (link_of s)

  lane_fires : (now : ℕ) (o : Option ℕ) → Fires (lane_fired st now o)
  lane_fires now None = (stays st refl refl refl, λ e. ap (λ q. is_hold (front q)) e)
  lane_fires now (Some to) = (stays _ refl refl refl, λ e. ap (λ q. is_hold (front (q ++ frames (finmap.get st.lanes to)))) e ∙ by (finmap.get st.lanes to))
    where
      frames : Option Lane → List CanFrame
      frames o = (elim o as (λ (_ : Option Lane). LaneStep) [ None ↦ nothing_to_do | Some lane ↦ (lane-fire.fired lane now).1 ]).frames

      by : (o : Option Lane) → is_hold (front (frames o)) ≡ false
      by None = refl
      by (Some lane) = lane_no_hold lane now

  session_fires : (key : Key) (now : ℕ) → Fires (by_session st (fired_at st.ports key now st.sessions))
  session_fires key now = by (state_at st.sessions key) refl
    where
      by : (o : Option (List ℕ × Incoming)) → state_at st.sessions key ≡ o → Fires (by_session st (fired_by o st.ports key now st.sessions))
      by None e = (stays _ refl refl refl, λ q. ap (λ x. is_hold (front (x ++ []))) q)
      by (Some v) e =
          let h = expired_awake st.ports.station key v.0 st.sessions calm.sessions (flow_at st.ports v.0) v.1 now (calm.sessions key v e) in
          (record { address = refl; calm = record { unpaused = calm.unpaused; sessions = h.0 } }, λ q. ap (λ x. is_hold (front (x ++ option_to_list (session_fired st.ports.station key v.0 st.sessions (flow_at st.ports v.0) v.1 now).frame))) q ∙ h.1)

  pub fired_keeps : (now : ℕ) → Fires (fired st now)
  fired_keeps now = by_option Fires (first_due st.sessions now) (lane_fired st now (due_lane st.lanes now)) (λ key. by_session st (fired_at st.ports key now st.sessions)) (lane_fires now (due_lane st.lanes now)) (λ key. session_fires key now)

-- A port closes

record Closes (st new : Station) : Type 0 where
  address : new.address ≡ st.address
  unpaused : has_paused new.ports.open_ports ≡ false
  sessions : AreAwake new.sessions

unbound_awake : (m : Inbound) → AreAwake m → (key : Key) (number : ℕ) → AreAwake (unbound_at key number m).sessions
unbound_awake m each key number = by (state_at m key) refl
  where
    by : (o : Option (List ℕ × Incoming)) → state_at m key ≡ o → AreAwake (unbound_by o key number m).sessions
    by None e = each
    by (Some v) e = either (λ (r : Reception). AreAwake r.sessions) (length (without_number v.0 number) == 0) _ _ (dropped_awake m key each) (put_awake m key (without_number v.0 number, v.1) (each key v e) each)

closes_session : (st new : Station) (source : Address) (kind : SessionKind) (number : ℕ) → Closes st new → Closes st (unbound_session new source kind number)
closes_session st new source kind number h = record { address = h.address; unpaused = h.unpaused; sessions = unbound_awake new.sessions h.sessions (key_of source kind) number }

closes_below : (st new : Station) (number n : ℕ) → Closes st new → Closes st (closed_below new number n)
unfolding closed_below
closes_below st new number zero h = h
closes_below st new number (suc n) h = closes_session st _ (record { 0 = n }) session.Etp number (closes_session st _ (record { 0 = n }) session.Tp number (closes_session st _ (record { 0 = n }) session.Broadcast number (closes_below st new number n h)))

closed_keeps : (st : Station) → IsCalm st → (number : ℕ) → Keeps st (closed st number)
closed_keeps st h number =
    let k : Closes st (closed st number) = closes_below st (record st { ports = without_port st.ports number }) number 254 (record { address = refl; unpaused = closed_unpaused number st.ports.open_ports h.unpaused; sessions = h.sessions }) in
    record { address = k.address; calm = record { unpaused = k.unpaused; sessions = k.sessions } }

-- Calls

module _ (seg : Segment) (calm : AreCalm seg) where
  abbrev Rests : Answer → Type 0
  Rests (Err cause) = Unit {0}
  Rests (Ok step) = AreCalm step.0

  or_rests : (b : Bool) (cause : Refusal) (x : Answer) → Rests x → Rests (cond b (Err cause) x)
  or_rests true cause x h = tt
  or_rests false cause x h = h

  at_rests : (a : Address) (does : ℕ → Station → Answer) → ((i : ℕ) (st : Station) → slice_get seg.stations i ≡ Some st → Rests (does i st)) → Rests (at_place seg (place_of seg a) does)
  at_rests a does h = by (place_of seg a)
    where
      there : (i : ℕ) (o : Option Station) → slice_get seg.stations i ≡ o → Rests (at_station o (does i))
      there i None e = tt
      there i (Some st) e = h i st e

      by : (o : Option ℕ) → Rests (at_place seg o does)
      by None = tt
      by (Some i) = there i (slice_get seg.stations i) refl

  -- a station changes
  module _ (i : ℕ) (st : Station) (at : slice_get seg.stations i ≡ Some st) where
    next_calm : (new : Station) → Keeps st new → (j : ℕ) (u : Station) → slice_get (set seg.stations i new) j ≡ Some u → IsCalm u
    next_calm new k j u e = by (equal_or_not j i)
      where
        by : (j ≡ i) ⊎ (j ≡ i → ⊥) → IsCalm u
        by (inl q) = let is : new ≡ u = same_Some new u (sym (slice_get_same seg.stations i st new at k.address) ∙ ap (slice_get (set seg.stations i new)) (sym q) ∙ e) in subst IsCalm is k.calm
        by (inr n) = calm j u (slice_get_other seg.stations i st new at k.address j u n e)

    quiet : (new : Station) → new.address ≡ st.address → new.ports ≡ st.ports → new.sessions ≡ st.sessions → (j : ℕ) (u : Station) → slice_get (set seg.stations i new) j ≡ Some u → IsCalm u
    quiet new a p s = next_calm new (stays st (calm i st at) new a p s)

    take_rests : (room : Bool) (o : Option CanFrame) → Rests (takes_by seg room i st o)
    take_rests room None = tt
    take_rests room (Some f) = or_rests (no_place st) _ _ (next_calm (taken st f room seg.now).station (taken_keeps st (calm i st at) f room seg.now))

    put_rests : (o : Option CanFrame) → Rests (transmits_by seg i st o)
    put_rests None = tt
    put_rests (Some f) = or_rests (bus.is_full seg.bus) _ _ (quiet (record st { queue = behind st.queue }) refl refl refl)

    pump_rests : (to : Address) (o : Option PumpRefused) → Rests (pumps_by seg to i st o)
    pump_rests to (Some pump.NothingToSend) = tt
    pump_rests to (Some pump.NotYet) = tt
    pump_rests to None = or_rests (nat_lt (free_places st.queue) pump_places) _ _ (quiet (pumped st to seg.now).station refl refl refl)

    overrun_keeps : Keeps st (overrun st).station
    overrun_keeps = record { address = refl; calm = record { unpaused = (calm i st at).unpaused; sessions = of_each_none (λ k w. is_on_hold w.1 ≡ false) } }

    ports_rest : (ports : Ports) → has_paused ports.open_ports ≡ false → (j : ℕ) (u : Station) → slice_get (set seg.stations i (record st { ports = ports })) j ≡ Some u → IsCalm u
    ports_rest ports none = next_calm (record st { ports = ports }) (record { address = refl; calm = record { unpaused = none; sessions = (calm i st at).sessions } })

    again_rests : (room : Bool) (o : Option CanFrame) → Rests (repeats_by seg room i st o)
    again_rests room None = tt
    again_rests room (Some f) = or_rests (no_place st) _ _ (next_calm (taken st f room seg.now).station (taken_keeps st (calm i st at) f room seg.now))

    send_rests : (to : Address) (pgn : ℕ) (bytes : List ℕ) → Rests (sends seg to pgn bytes i st)
    send_rests to pgn bytes =
        or_rests (to.0 == null_address) _ _
        (or_rests (st.address.0 == to.0) _ _
        (or_rests (nat_lt (length bytes) MIN_SIZE) _ _
        (or_rests (nat_lt (longest_to to.0) (length bytes)) _ _
        (or_rests (is_full (lane_of st to)) _ _ (quiet (sent st to pgn bytes) refl refl refl)))))

  call_rests : (call : Call) → is_pause call ≡ false → Rests (called seg call)
  unfolding called
  call_rests (ask.Take a room) is = at_rests a (takes seg room) (λ i st at. take_rests i st at room (bus.next_frame seg.bus i))
  call_rests (ask.Transmit a) is = at_rests a (transmits seg) (λ i st at. put_rests i st at (front st.queue))
  call_rests (ask.Overrun a n) is = at_rests a (overruns seg n) (λ i st at. or_rests (nat_lt (bus.waiting seg.bus i) n) _ _ (next_calm i st at (overrun st).station (overrun_keeps i st at)))
  call_rests (ask.Pump a to) is = at_rests a (pumps seg to) (λ i st at. or_rests (to.0 == null_address) _ _ (pump_rests i st at to (refusal_at st.lanes to.0 seg.now)))
  call_rests (ask.Fire a) is = at_rests a (fires seg) (λ i st at. or_rests (not (is_due st seg.now)) _ _ (or_rests (no_place st) _ _ (next_calm i st at (fired st seg.now).station (fired_keeps st (calm i st at) seg.now).0)))
  call_rests (ask.Tick n) is = or_rests (not (nat_lt (seg.now + n) (2 ^ 64))) _ _ calm
  call_rests (ask.Open a pgn max_len) is = at_rests a (opens seg pgn max_len) (λ i st at. or_rests (are_full st.ports) _ _ (ports_rest i st at (with_port st.ports pgn max_len) (opened_unpaused st.ports.open_ports _ (calm i st at).unpaused refl)))
  call_rests (ask.Close port) is = at_rests port.station (closes seg port.number) (λ i st at. or_rests (not (is_open st.ports port.number)) _ _ (next_calm i st at (closed st port.number) (closed_keeps st (calm i st at) port.number)))
  call_rests (ask.Send from to pgn bytes) is = at_rests from (sends seg to pgn bytes) (λ i st at. send_rests i st at to pgn bytes)
  call_rests (ask.TakeAgain a room) is = at_rests a (repeats seg room) (λ i st at. again_rests i st at room (bus.frame_again seg.bus i))
  call_rests (ask.Cancel from to number) is = at_rests from (cancels seg to number) (λ i st at.
      or_rests (to.0 == null_address) _ _
      (or_rests (not (is_pending_at st.lanes to.0 number)) _ _
      (or_rests (queues_abort_at st.lanes to.0 number && no_place st) _ _ (quiet i st at (cancelled st to number).station refl refl refl))))
  call_rests (ask.Inject f) is = or_rests (has_station seg (meaning_of f.id).from) _ _ (or_rests (bus.is_full seg.bus) _ _ calm)
  call_rests (ask.Pause port) is = absurd (true≢false is)
  call_rests (ask.Resume port) is = at_rests port.station (resumes seg port.number) (λ i st at. or_rests (not (is_open st.ports port.number)) _ _ (or_rests (not (is_paused st.ports port.number)) _ _ (ports_rest i st at (with_paused st.ports port.number false) (resumed_unpaused port.number st.ports.open_ports (calm i st at).unpaused))))

  pub calm_call : (call : Call) → is_pause call ≡ false → AreCalm (applied seg call).0
  calm_call call is = by (called seg call) (call_rests call is)
    where
      by : (x : Answer) → Rests x → AreCalm (replied seg x).0
      by (Err cause) k = calm
      by (Ok step) k = k

-- no call of a drain is a Pause
pub no_pause : (call : Call) → is_drain_call call ≡ true → is_pause call ≡ false
no_pause (ask.Pause port) is = absurd (true≢false (sym is))
no_pause call is = refl

-- a segment at rest without a paused port
pub rested_calm : (seg : Segment) → HasRested seg → AreUnpaused seg → AreCalm seg
rested_calm seg rested unpaused i st at = record { unpaused = unpaused i st at; sessions = λ key v e. absurd (none-some v (sym ((rested i st at).sessions key) ∙ e)) }

new_calm : (addresses : List Address) → AreCalm (new_segment addresses)
new_calm addresses i st e = subst IsCalm (sym (new_at (rising addresses) i st e)) (record { unpaused = refl; sessions = of_each_none (λ k w. is_on_hold w.1 ≡ false) })

left_none : (steps : Record) (step : Step) → never_paused (steps ++ step ∷ []) ≡ true → (never_paused steps ≡ true) × (is_pause step.0 ≡ false)
left_none [] step e = (refl, by (is_pause step.0) e)
  where
    by : (b : Bool) → (not b && true) ≡ true → b ≡ false
    by true q = absurd (true≢false (sym q))
    by false q = refl
left_none (x ∷ xs) step e = by (not (is_pause x.0)) e (left_none xs step)
  where
    by : (b : Bool) → (b && never_paused (xs ++ step ∷ [])) ≡ true → (never_paused (xs ++ step ∷ []) ≡ true → (never_paused xs ≡ true) × (is_pause step.0 ≡ false)) → ((b && never_paused xs) ≡ true) × (is_pause step.0 ≡ false)
    by true q rest = rest q
    by false q rest = absurd (true≢false (sym q))

-- who never pauses a port
pub never_calm : (addresses : List Address) (steps : Record) (seg : Segment) → StandsAt addresses steps seg → never_paused steps ≡ true → AreCalm seg
never_calm addresses steps seg h = at_record (λ steps s. never_paused steps ≡ true → AreCalm s)
    (λ steps s call r is k e. (let n = left_none steps (call, (applied s call).1) e in calm_call s (k n.0) call n.1)) addresses steps seg h (λ e. new_calm addresses)
