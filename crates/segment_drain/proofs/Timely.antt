-- Every timer is due soon, at every record.
use Rattle.std.proofs.Common.{◌≡◌, ◌⊎◌, inl, inr, ℕ, zero, suc, ◌+◌, ◌-◌, ◌^◌, ◌≤◌, min, max, ◌==◌, nat_lt, nat_le, Bool, true, false, cond, not, ◌&&◌, ◌||◌, List, [], ◌∷◌, length, set, Option, Some, None, Ok, Err, refl, sym, ap, ◌∙◌, subst, arith}
use Rattle.std.specs.Prelude.{slice_get}
use Rattle.std.proofs.lemmas.Option.{same_Some, none-some}
use Rattle.std.specs.Ordering.{nat_cmp}
use Rattle.std.specs.FinMap as finmap
use Rattle.std.specs.FinMap.{get-empty}
use Rattle.bus_frame.specs.Frames.{CanFrame}
use Rattle.pgn_ids.specs.Address.{null_address}
use Rattle.pgn_ids.specs.Pgn.{clean}
use Rattle.pgn_ids.specs.Identifier.{meaning_of}
use Rattle.pgn_ids.specs.declared.address.Address.{Address}
use Rattle.tick_timers.specs.Timers.{Timer, is_due as is_timer_due}
use Rattle.tick_timers.specs.declared.durations.TheConstants.{T3, T4}
use Rattle.tx_queue.specs.Queue.{free_places, front, behind}
use Rattle.bus_order.specs.Bus as bus
use Rattle.tp_wire.specs.Kinds.{is_same_kind}
use Rattle.tp_wire.specs.Reading.{reading}
use Rattle.tp_wire.specs.declared.constants.TheConstants.{MIN_SIZE, ETP_MAX_WINDOW}
use Rattle.tp_wire.specs.declared.outcome.Outcome.{Outcome}
use Rattle.tp_wire.specs.declared.outcome.Outcome.TheVariants as outcome
use Rattle.tp_wire.specs.declared.wire.Kind.{Kind}
use Rattle.tp_wire.specs.declared.wire.Kind.TheVariants.{Tp, Etp}
use Rattle.tp_wire.specs.declared.wire.CmFrame.{CmFrame}
use Rattle.tp_wire.specs.declared.wire.CmFrame.TheVariants.{Rts, Cts, EndOfMsgAck, Bam, Abort, EtpRts, EtpCts, EtpDpo, EtpEoma, EtpAbort}
use Rattle.tp_wire.specs.declared.wire.Wire.{Wire}
use Rattle.tp_wire.specs.declared.wire.Wire.TheVariants.{Cm, Packet, Request, Ack}
use Rattle.seg_cut.specs.Join.{wants_last}
use Rattle.seg_cut.specs.Packets.{packet_count}
use Rattle.port_table.specs.PortSet.{without_number}
use Rattle.port_table.specs.Ports.{Ports, are_full, with_port, without_port, is_open, is_paused, with_paused}
use Rattle.responder.specs.Unfinished.{Unfinished, begun as unfinished_begun, number_of, is_of_another}
use Rattle.responder.specs.Window.{most_of}
use Rattle.responder.specs.Asking.{asking}
use Rattle.responder.specs.States as states
use Rattle.responder.specs.Readers as responder
use Rattle.responder.specs.AwaitPacket.{is_wrong_dpo, announced, on_dpo, on_packet}
use Rattle.responder.specs.Holding.{holding_stepped}
use Rattle.responder.specs.Steps.{awaiting_stepped, expired}
use Rattle.responder.specs.Room.{first_join, prepared_wait, prepared_hold, grants_next}
use Rattle.responder.specs.declared.flow.Flow.{Flow}
use Rattle.responder.specs.declared.flow.Flow.TheVariants.{Open, Held}
use Rattle.responder.specs.declared.in_state.InState.TheVariants.{AwaitPacket, Holding}
use Rattle.responder.specs.declared.received.Received.{Received}
use Rattle.responder.specs.declared.received.Received.TheVariants as received
use Rattle.bam_session.specs.States as bam
use Rattle.bam_session.specs.Receiving as bam-steps
use Rattle.bam_session.specs.Frames.{next_packet}
use Rattle.bam_session.specs.Sending as bam-out
use Rattle.bam_session.specs.declared.outgoing.BamPumped.{BamPumped}
use Rattle.originator.specs.Link.{Link, packets_of}
use Rattle.originator.specs.Cts.{cts_without_window, is_equal_cts, has_unsent, on_cts}
use Rattle.originator.specs.Endings as out
use Rattle.originator.specs.Opening.{begun}
use Rattle.originator.specs.Pump as burst
use Rattle.originator.specs.Readers.{link_of, started, without_window, is_of, is_all_queued}
use Rattle.originator.specs.States.{Sending as Window, most_resends}
use Rattle.originator.specs.Step.{on_cm}
use Rattle.originator.specs.declared.states.OutState.{OutState}
use Rattle.originator.specs.declared.states.OutState.TheVariants.{AwaitCts, Sending, AwaitEnd}
use Rattle.originator.specs.declared.states.Stepped.{Stepped}
use Rattle.originator.specs.declared.states.Stepped.TheVariants.{On, Over}
use Rattle.lane_core.specs.Cancel as lane-cancel
use Rattle.lane_core.specs.Answer.{answered, answered_by}
use Rattle.lane_core.specs.Endings.{over, is_acknowledged, after_step}
use Rattle.lane_core.specs.Fire as lane-fire
use Rattle.lane_core.specs.Hear.{connection_heard, heard, heard_by}
use Rattle.lane_core.specs.Lane.{Lane, new_lane, pushed, is_full, longest_to, link_for, with_under_way}
use Rattle.lane_core.specs.Overrun as lane-overrun
use Rattle.lane_core.specs.Probe.{is_token, most_requests, probes}
use Rattle.lane_core.specs.Pump as lane-pump
use Rattle.lane_core.specs.Step.{LaneStep, nothing_to_do}
use Rattle.lane_core.specs.declared.message.Pending.{Pending}
use Rattle.lane_core.specs.declared.place.UnderWay.{UnderWay}
use Rattle.lane_core.specs.declared.place.UnderWay.TheVariants.{Nothing, Broadcast, Connection}
use Rattle.lane_core.specs.declared.probe.Standing.{Standing}
use Rattle.lane_core.specs.declared.probe.Standing.TheVariants.{Settled, InDoubt, Probing}
use Rattle.lane_core.specs.declared.refused.PumpRefused.{PumpRefused}
use Rattle.lane_core.specs.declared.refused.PumpRefused.TheVariants as pump
use Rattle.session_table.specs.DueOrder.{first_due}
use Rattle.session_table.specs.Incoming.{timer_of, pgn_of}
use Rattle.session_table.specs.Key.{session_for}
use Rattle.session_table.specs.Sessions.{state_at}
use Rattle.session_table.specs.declared.key.Key.{Key}
use Rattle.session_table.specs.declared.key.SessionKind.{SessionKind}
use Rattle.session_table.specs.declared.key.SessionKind.TheVariants as session
use Rattle.session_table.specs.declared.incoming.Incoming.{Incoming}
use Rattle.session_table.specs.declared.incoming.Incoming.TheVariants as incoming
use Rattle.station_lanes.specs.Lanes.{Lanes}
use Rattle.station_lanes.specs.LaneCalls.{stepped_lanes}
use Rattle.station_lanes.specs.LaneReaders.{refusal_at, is_pending_at, queues_abort_at, due_lane, overrun_lanes}
use Rattle.station_sessions.specs.Opening.{key_of, refusal, is_tp_size, is_etp_size, set_for, others_than, peer_of, rts_received, bam_received, opening_received}
use Rattle.station_sessions.specs.Receiving.{Inbound, Reception, broadcast_settled, connection_settled, session_stepped, session_fired, flow_at, received_by, received as frame_received, fired_by, fired_at, aborted_at, unbound_by, unbound_at}
use Rattle.station_core.specs.Station.{Station, StationStep, by_session, by_lane}
use Rattle.station_core.specs.Sending.{lane_of, sent, pumped, cancelled}
use Rattle.station_core.specs.Closing.{unbound_session, closed_below, closed}
use Rattle.station_core.specs.Taking.{packet_kind, cm_taken, wire_taken, looks_at, meaning_taken, taken}
use Rattle.station_core.specs.Overruns.{overrun}
use Rattle.station_core.specs.Timers.{is_due, lane_fired, fired}
use Rattle.segment_law.specs.Segment.{Segment, place_of, has_station, new_segment, rising}
use Rattle.segment_law.specs.Calls.{Answer, no_place, pump_places, takes_by, takes, transmits_by, transmits, overruns, fires, pumps_by, pumps, opens, closes, sends, repeats_by, repeats, cancels, pauses, resumes, at_station, at_place, called, replied, applied}
use Rattle.segment_law.specs.declared.call.Call.{Call}
use Rattle.segment_law.specs.declared.call.Call.TheVariants as ask
use Rattle.segment_law.specs.declared.refusal.Refusal.{Refusal}
use Rattle.segment_law.specs.Record.{Record, StandsAt}
use Rattle.record_law.proofs.AlongRecords.{at_record}
use Rattle.record_law.proofs.Segments.{new_at}
use Rattle.segment_law.proofs.Reaching.{slice_get_same, slice_get_other}
use Rattle.record_law.proofs.Maps.{lane_here, lane_else, of_each_put, of_each_dropped, of_each_none}
use Rattle.record_law.proofs.Tests.{either, by_option, equal_or_not}
use Rattle.segment_drain.specs.Enough.{longest_time}

-- it is due after that time at the latest
abbrev pub IsTimely : (now : ℕ) → Timer → Type 0
IsTimely now timer = timer.started + timer.ticks ≤ now + longest_time

abbrev pub IsTimelyOut : (now : ℕ) → OutState → Type 0
IsTimelyOut now (AwaitCts s) = IsTimely now s.timer
IsTimelyOut now (Sending s) = Unit {0}
IsTimelyOut now (AwaitEnd s) = IsTimely now s.timer

-- the gap of a broadcast, or the timer of a connection
abbrev pub IsTimelyUnder : (now : ℕ) → UnderWay → Type 0
IsTimelyUnder now Nothing = Unit {0}
IsTimelyUnder now (Broadcast s) = IsTimely now s.gap
IsTimelyUnder now (Connection o) = IsTimelyOut now o

-- the timer of a Request
abbrev pub IsTimelyStanding : (now : ℕ) → Standing → Type 0
IsTimelyStanding now (Probing count timer) = IsTimely now timer
IsTimelyStanding now _ = Unit {0}

pub record IsTimelyLane (now : ℕ) (lane : Lane) : Type 0 where
  pub under_way : IsTimelyUnder now lane.under_way
  pub standing : IsTimelyStanding now lane.standing

-- so are all timers of a station
pub record IsTimelyStation (now : ℕ) (st : Station) : Type 0 where
  pub sessions : (key : Key) (v : List ℕ × Incoming) → state_at st.sessions key ≡ Some v → IsTimely now (timer_of v.1)
  pub lanes : (to : ℕ) (lane : Lane) → finmap.get st.lanes to ≡ Some lane → IsTimelyLane now lane

abbrev pub AreTimely : Segment → Type 0
AreTimely seg = (i : ℕ) (st : Station) → slice_get seg.stations i ≡ Some st → IsTimelyStation seg.now st

module _ (now : ℕ) where
  -- Sessions

  abbrev pub AreSoon : Inbound → Type 0
  AreSoon m = (key : Key) (v : List ℕ × Incoming) → state_at m key ≡ Some v → IsTimely now (timer_of v.1)

  put_soon : (m : Inbound) (key : Key) (v : List ℕ × Incoming) → IsTimely now (timer_of v.1) → AreSoon m → AreSoon (finmap.insert m key (Some v))
  put_soon m key v h each = of_each_put (λ k w. IsTimely now (timer_of w.1)) m key v h each

  dropped_soon : (m : Inbound) (key : Key) → AreSoon m → AreSoon (finmap.remove m key)
  dropped_soon m key each = of_each_dropped (λ k w. IsTimely now (timer_of w.1)) m key each

  abbrev Goes : Received → Type 0
  Goes (received.On s frame) = IsTimely now (responder.timer_of s)
  Goes (received.Complete w) = Unit {0}
  Goes (received.Ended frame) = Unit {0}

  asking_soon : (m : Unfinished) (flow : Flow) → IsTimely now (responder.timer_of (asking m flow now))
  asking_soon m Open = omega arith
  asking_soon m Held = omega arith

  packet_soon : (s : states.AwaitPacket) (number : ℕ) (bytes : List ℕ) (room : Bool) (flow : Flow) → IsTimely now s.timer → Goes (on_packet s number bytes room flow now)
  packet_soon s number bytes room flow h =
      either Goes (nat_lt number s.message.join.next) _ _ h
      (either Goes (nat_lt s.message.join.next number || nat_lt s.until s.message.join.next) _ _ tt
      (either Goes (not (wants_last s.message.join) && nat_lt number s.until) _ _ (omega arith)
      (either Goes (not (wants_last s.message.join) && room) _ _ (asking_soon _ flow)
      (either Goes (not (wants_last s.message.join)) _ _ tt tt))))

  announced_soon : (s : states.AwaitPacket) (packets offset : ℕ) → IsTimely now s.timer → IsTimely now (announced s packets offset).timer
  announced_soon s packets offset h = either (λ (x : states.AwaitPacket). IsTimely now x.timer) (nat_le s.message.join.next (offset + packets)) _ _ h h

  dpo_soon : (s : states.AwaitPacket) (packets offset pgn : ℕ) → IsTimely now s.timer → Goes (on_dpo s packets offset pgn)
  dpo_soon s packets offset pgn h =
      either Goes (is_of_another s.message.peer pgn) _ _ h
      (either Goes (is_wrong_dpo s.message.join.next s.granted packets offset) _ _ tt (announced_soon s packets offset h))

  step_soon : (s : states.AwaitPacket) (wire : Wire) (room : Bool) (flow : Flow) → IsTimely now s.timer → Goes (awaiting_stepped s wire room flow now)
  step_soon s (Packet kind sequence bytes) room flow h = either Goes (is_same_kind s.message.kind kind) _ _ (packet_soon s (number_of s.message sequence) bytes room flow h) h
  step_soon s (Cm (EtpDpo packets offset pgn)) room flow h = either Goes (is_same_kind s.message.kind Etp) _ _ (dpo_soon s packets offset pgn h) h
  step_soon s (Cm (Rts size packets most pgn)) room flow h = h
  step_soon s (Cm (Cts granted next pgn)) room flow h = h
  step_soon s (Cm (EndOfMsgAck size packets pgn)) room flow h = h
  step_soon s (Cm (Bam size packets pgn)) room flow h = h
  step_soon s (Cm (Abort r pgn)) room flow h = h
  step_soon s (Cm (EtpRts size pgn)) room flow h = h
  step_soon s (Cm (EtpCts granted next pgn)) room flow h = h
  step_soon s (Cm (EtpEoma size pgn)) room flow h = h
  step_soon s (Cm (EtpAbort r pgn)) room flow h = h
  step_soon s (Request pgn) room flow h = h
  step_soon s (Ack control address pgn) room flow h = h

  holding_soon : (s : states.Holding) (wire : Wire) → IsTimely now s.timer → Goes (holding_stepped s wire)
  holding_soon s (Packet kind sequence bytes) h = either Goes (is_same_kind s.message.kind kind) _ _ (either Goes (nat_lt (number_of s.message sequence) s.message.join.next) _ _ h tt) h
  holding_soon s (Cm (EtpDpo packets offset pgn)) h = either Goes (is_same_kind s.message.kind Etp) _ _
      (either Goes (is_of_another s.message.peer pgn) _ _ h (either Goes (is_wrong_dpo s.message.join.next (s.message.join.next - 1) packets offset) _ _ tt h)) h
  holding_soon s (Cm (Rts size packets most pgn)) h = h
  holding_soon s (Cm (Cts granted next pgn)) h = h
  holding_soon s (Cm (EndOfMsgAck size packets pgn)) h = h
  holding_soon s (Cm (Bam size packets pgn)) h = h
  holding_soon s (Cm (Abort r pgn)) h = h
  holding_soon s (Cm (EtpRts size pgn)) h = h
  holding_soon s (Cm (EtpCts granted next pgn)) h = h
  holding_soon s (Cm (EtpEoma size pgn)) h = h
  holding_soon s (Cm (EtpAbort r pgn)) h = h
  holding_soon s (Request pgn) h = h
  holding_soon s (Ack control address pgn) h = h

  wait_soon : (s : states.AwaitPacket) (wire : Wire) (room : Bool) (flow : Flow) → IsTimely now s.timer → IsTimely now (prepared_wait s wire room flow).timer
  wait_soon s wire room flow h = either (λ (x : states.AwaitPacket). IsTimely now x.timer) (is_same_kind s.message.kind Etp && grants_next s wire room flow) _ _ h h

  module _ (station : Address) (key : Key) (set : List ℕ) (m : Inbound) (each : AreSoon m) where
    settled_soon : (room : Bool) (r : Received) → Goes r → AreSoon (connection_settled station key set room m r).sessions
    settled_soon room (received.On s frame) h = put_soon m key (set, incoming.Connection s) h each
    settled_soon room (received.Complete w) h = either (λ (r : Reception). AreSoon r.sessions) room _ _ (dropped_soon m key each) (dropped_soon m key each)
    settled_soon room (received.Ended frame) h = dropped_soon m key each

    abbrev Awaits : bam-steps.Received → Type 0
    Awaits (bam-steps.Awaits t) = IsTimely now t.timer
    Awaits r = Unit {0}

    awaits_soon : (s : bam.Incoming) (wire : Wire) → IsTimely now s.timer → Awaits (bam-steps.stepped s wire now)
    awaits_soon s (Packet Tp k bytes) h =
        either Awaits (nat_lt k s.join.next) _ _ h
        (either Awaits (nat_lt s.join.next k) _ _ tt
        (either Awaits (not (wants_last s.join)) _ _ (omega arith) tt))
    awaits_soon s (Packet Etp k bytes) h = h
    awaits_soon s (Cm frame) h = h
    awaits_soon s (Request pgn) h = h
    awaits_soon s (Ack control address pgn) h = h

    settled_broadcast : (room : Bool) (s : bam.Incoming) (r : bam-steps.Received) → Awaits r → AreSoon (broadcast_settled station key set room m s r).sessions
    settled_broadcast room s (bam-steps.Awaits t) h = put_soon m key (set, incoming.Broadcast t) h each
    settled_broadcast room s (bam-steps.Completes bytes) h = either (λ (r : Reception). AreSoon r.sessions) room _ _ (dropped_soon m key each) (dropped_soon m key each)
    settled_broadcast room s bam-steps.Drops h = dropped_soon m key each

    stepped_soon : (room : Bool) (flow : Flow) (s : Incoming) (wire : Wire) → IsTimely now (timer_of s) → AreSoon (session_stepped station key set room m flow s wire now).sessions
    stepped_soon room flow (incoming.Broadcast s) wire h = settled_broadcast room s (bam-steps.stepped s wire now) (awaits_soon s wire h)
    stepped_soon room flow (incoming.Connection (AwaitPacket s)) wire h = settled_soon room (awaiting_stepped (prepared_wait s wire room flow) wire room flow now) (step_soon (prepared_wait s wire room flow) wire room flow (wait_soon s wire room flow h))
    stepped_soon room flow (incoming.Connection (Holding s)) wire h = settled_soon room (holding_stepped s wire) (holding_soon s wire h)

    expired_soon : (flow : Flow) (s : Incoming) → AreSoon (session_fired station key set m flow s now).sessions
    expired_soon flow (incoming.Broadcast s) = dropped_soon m key each
    expired_soon flow (incoming.Connection (AwaitPacket s)) = dropped_soon m key each
    expired_soon Open (incoming.Connection (Holding s)) = settled_soon true (expired (Holding (prepared_hold s)) Open now) (omega arith)
    expired_soon Held (incoming.Connection (Holding s)) = settled_soon true (expired (Holding s) Held now) (omega arith)

  module _ (ports : Ports) (m : Inbound) (each : AreSoon m) where
    received_soon : (key : Key) (wire : Wire) (room : Bool) → AreSoon (frame_received ports key wire room now m).sessions
    received_soon key wire room = by (state_at m key) refl
      where
        by : (o : Option (List ℕ × Incoming)) → state_at m key ≡ o → AreSoon (received_by o ports key wire room now m).sessions
        by None e = each
        by (Some v) e = stepped_soon ports.station key v.0 m each room (flow_at ports v.0) v.1 wire (each key v e)

    expired_at_soon : (key : Key) → AreSoon (fired_at ports key now m).sessions
    expired_at_soon key = by (state_at m key)
      where
        by : (o : Option (List ℕ × Incoming)) → AreSoon (fired_by o ports key now m).sessions
        by None = each
        by (Some v) = expired_soon ports.station key v.0 m each (flow_at ports v.0) v.1

    aborted_soon : (key : Key) (pgn : ℕ) → AreSoon (aborted_at key pgn m)
    aborted_soon key pgn = by_option AreSoon (state_at m key) m (λ v. cond (clean (pgn_of v.1) == clean pgn) (finmap.remove m key) m) each (λ v. either AreSoon (clean (pgn_of v.1) == clean pgn) (finmap.remove m key) m (dropped_soon m key each) each)

    rts_soon : (own : Address) (kind : Kind) (is_size : Bool) (from : Address) (size most pgn : ℕ) (room : Bool) → AreSoon (rts_received own ports kind is_size from size most pgn room now m).sessions
    rts_soon own kind is_size from size most pgn room =
        by_option (λ (r : Reception). AreSoon r.sessions) (refusal is_size room (set_for ports pgn size) (others_than m (key_of from (session_for kind)))) _ _
        (put_soon m (key_of from (session_for kind)) _ (asking_soon (unfinished_begun kind (peer_of own from pgn) most (first_join kind size (flow_at ports (set_for ports pgn size)))) (flow_at ports (set_for ports pgn size))) each)
        (λ r. dropped_soon m (key_of from (session_for kind)) each)

    bam_soon : (from : Address) (size packets pgn : ℕ) (room : Bool) → AreSoon (bam_received ports from size packets pgn room now m).sessions
    bam_soon from size packets pgn room =
        by_option (λ (r : Reception). AreSoon r.sessions) (refusal (is_tp_size size packets) room (set_for ports pgn size) (others_than m (key_of from session.Broadcast))) _ _
        (put_soon m (key_of from session.Broadcast) _ (omega arith) each)
        (λ r. dropped_soon m (key_of from session.Broadcast) each)

    opening_soon : (own : Address) (frame : CmFrame) (from : Address) (room : Bool) → AreSoon (opening_received own ports frame from room now m).sessions
    opening_soon own (Rts size packets most pgn) from room = rts_soon own Tp (is_tp_size size packets) from size (most_of Tp most) pgn room
    opening_soon own (EtpRts size pgn) from room = rts_soon own Etp (is_etp_size size) from size ETP_MAX_WINDOW pgn room
    opening_soon own (Bam size packets pgn) from room = bam_soon from size packets pgn room
    opening_soon own (Cts granted next pgn) from room = each
    opening_soon own (EndOfMsgAck size packets pgn) from room = each
    opening_soon own (Abort r pgn) from room = each
    opening_soon own (EtpCts granted next pgn) from room = each
    opening_soon own (EtpDpo packets offset pgn) from room = each
    opening_soon own (EtpEoma size pgn) from room = each
    opening_soon own (EtpAbort r pgn) from room = each

  -- Lanes

  abbrev Steps : Stepped → Type 0
  Steps (On o) = IsTimelyOut now o
  Steps (Over x) = Unit {0}

  without_soon : (link : Link) (unsent resends : ℕ) (timer : Timer) → IsTimely now timer → IsTimelyOut now (without_window link unsent resends timer)
  without_soon link unsent resends timer h = either (IsTimelyOut now) (nat_le unsent (packets_of link)) _ _ h h

  cts_soon : (link : Link) (unsent resends granted next : ℕ) → Steps (cts_without_window link unsent resends granted next now)
  cts_soon link unsent resends granted next =
      either Steps (granted == 0) _ _ (without_soon link unsent resends (started now T4) (omega arith))
      (either Steps (next == 0 || nat_lt (min unsent (packets_of link)) next) _ _ tt
      (either Steps (nat_lt next unsent && resends == most_resends) _ _ tt
      (either Steps (nat_lt next unsent) _ _ tt tt)))

  on_cts_soon : (o : OutState) (granted next : ℕ) → Steps (on_cts o granted next now)
  on_cts_soon (AwaitCts s) granted next = cts_soon s.link s.unsent s.resends granted next
  on_cts_soon (AwaitEnd s) granted next = cts_soon s.link (packets_of s.link + 1) s.resends granted next
  on_cts_soon (Sending s) granted next = either Steps (is_equal_cts s granted next) _ _ tt (either Steps (has_unsent s) _ _ tt (cts_soon s.link s.unsent s.resends granted next))

  on_cm_soon : (o : OutState) (frame : CmFrame) → IsTimelyOut now o → Steps (on_cm o frame now)
  on_cm_soon o (Cts granted next pgn) h = either Steps (is_of o Tp pgn) _ _ (on_cts_soon o granted next) h
  on_cm_soon o (EtpCts granted next pgn) h = either Steps (is_of o Etp pgn) _ _ (on_cts_soon o granted next) h
  on_cm_soon o (EndOfMsgAck size packets pgn) h = either Steps (is_of o Tp pgn && packets == packets_of (link_of o)) _ _ (either Steps (size == (link_of o).len && is_all_queued o) _ _ tt h) h
  on_cm_soon o (EtpEoma size pgn) h = either Steps (is_of o Etp pgn) _ _ (either Steps (size == (link_of o).len && is_all_queued o) _ _ tt h) h
  on_cm_soon o (Rts size packets most pgn) h = h
  on_cm_soon o (Bam size packets pgn) h = h
  on_cm_soon o (Abort r pgn) h = h
  on_cm_soon o (EtpRts size pgn) h = h
  on_cm_soon o (EtpDpo packets offset pgn) h = h
  on_cm_soon o (EtpAbort r pgn) h = h

  heard_soon : (o : OutState) (wire : Wire) → IsTimelyOut now o → Steps (connection_heard o wire now)
  heard_soon o (Cm (Abort r pgn)) h = either Steps (is_of o Tp pgn) _ _ tt h
  heard_soon o (Cm (EtpAbort r pgn)) h = either Steps (is_of o Etp pgn) _ _ tt h
  heard_soon o (Cm (Rts size packets most pgn)) h = h
  heard_soon o (Cm (Cts granted next pgn)) h = on_cm_soon o (Cts granted next pgn) h
  heard_soon o (Cm (EndOfMsgAck size packets pgn)) h = on_cm_soon o (EndOfMsgAck size packets pgn) h
  heard_soon o (Cm (Bam size packets pgn)) h = h
  heard_soon o (Cm (EtpRts size pgn)) h = h
  heard_soon o (Cm (EtpCts granted next pgn)) h = on_cm_soon o (EtpCts granted next pgn) h
  heard_soon o (Cm (EtpDpo packets offset pgn)) h = h
  heard_soon o (Cm (EtpEoma size pgn)) h = on_cm_soon o (EtpEoma size pgn) h
  heard_soon o (Packet kind sequence bytes) h = h
  heard_soon o (Request pgn) h = h
  heard_soon o (Ack control address pgn) h = h

  module _ (lane : Lane) (h : IsTimelyLane now lane) where
    under : (u : UnderWay) → IsTimelyUnder now u → IsTimelyLane now (with_under_way lane u)
    under u k = record { under_way = k; standing = h.standing }

    over_soon : (o : Outcome) (frame : Option CanFrame) → IsTimelyLane now (over lane o frame).0
    over_soon o frame = record { under_way = tt; standing = either (IsTimelyStanding now) (lane.to == 255 || is_acknowledged o) lane.standing InDoubt h.standing tt }

    here : (u : UnderWay) → lane.under_way ≡ u → IsTimelyUnder now u
    here u e = subst (IsTimelyUnder now) e h.under_way

    after_soon : (step : Stepped) → Steps step → IsTimelyLane now (after_step lane step).0
    after_soon (On o) k = under (Connection o) k
    after_soon (Over x) k = over_soon x.outcome x.frame

    lane_heard : (wire : Wire) → IsTimelyLane now (heard lane wire now).0
    lane_heard wire = by lane.under_way refl
      where
        by : (u : UnderWay) → lane.under_way ≡ u → IsTimelyLane now (heard_by u lane wire now).0
        by Nothing e = h
        by (Broadcast s) e = h
        by (Connection o) e = after_soon (connection_heard o wire now) (heard_soon o wire (here (Connection o) e))

    lane_answered : (pgn : ℕ) → IsTimelyLane now (answered lane pgn)
    lane_answered pgn = by lane.standing
      where
        by : (s : Standing) → IsTimelyLane now (answered_by s lane pgn)
        by Settled = h
        by InDoubt = h
        by (Probing count timer) = either (IsTimelyLane now) (is_token lane.token pgn) _ _ (record { under_way = h.under_way; standing = tt }) h

    lane_overrun : IsTimelyLane now (lane-overrun.overrun lane).0
    lane_overrun = by lane.under_way
      where
        by : (u : UnderWay) → IsTimelyLane now (lane-overrun.overrun_by u lane).0
        by Nothing = h
        by (Broadcast s) = h
        by (Connection o) = over_soon outcome.Overrun None

    probes_soon : (count : ℕ) → IsTimelyLane now (probes lane count now).0
    probes_soon count = record { under_way = h.under_way; standing = omega arith }

    lane_fires : IsTimelyLane now (lane-fire.fired lane now).0
    lane_fires = by lane.under_way
      where
        asks : (s : Standing) → IsTimelyLane now (lane-fire.probe_fired s lane now).0
        asks Settled = h
        asks InDoubt = h
        asks (Probing count timer) = either (λ (x : Lane × LaneStep). IsTimelyLane now x.0) (nat_lt count most_requests) _ _ (probes_soon (count + 1)) (over_soon outcome.Unreachable None)

        by : (u : UnderWay) → IsTimelyLane now (lane-fire.fired_by u lane now).0
        by Nothing = asks lane.standing
        by (Broadcast s) = h
        by (Connection s) = over_soon (out.expired (link_of s)).outcome (out.expired (link_of s)).frame

    lane_pumped : IsTimelyLane now (lane-pump.pumped lane now).0
    lane_pumped = by lane.under_way refl
      where
        begins : (m : Pending) → IsTimelyLane now (lane-pump.begins lane m now).0
        begins m = either (λ (x : Lane × LaneStep). IsTimelyLane now x.0) (lane.to == 255) _ _ (under (Broadcast (bam-out.begun lane.from m.pgn (length m.bytes) now).0) (omega arith)) (under (Connection (AwaitCts (begun (link_for lane.from lane.to m) now).0)) (omega arith))

        idle : (s : Standing) (ms : List Pending) → IsTimelyLane now (lane-pump.idle_pumped s ms lane now).0
        idle Settled (m ∷ ms) = begins m
        idle InDoubt (m ∷ ms) = probes_soon 1
        idle (Probing count timer) (m ∷ ms) = h
        idle Settled [] = h
        idle InDoubt [] = h
        idle (Probing count timer) [] = h

        packet : (s : bam.Outgoing) → IsTimely now s.gap → IsTimelyLane now (lane-pump.after_packet lane (bam-out.pumped s (lane-pump.front_bytes lane.pending) now)).0
        packet s k =
            either (λ (x : BamPumped). IsTimelyLane now (lane-pump.after_packet lane x).0) (not (is_timer_due s.gap now)) _ _ (under (Broadcast s) k)
            (either (λ (x : BamPumped). IsTimelyLane now (lane-pump.after_packet lane x).0) (s.next == packet_count s.len) _ _ (over_soon outcome.Broadcast (Some (next_packet s (lane-pump.front_bytes lane.pending)))) (under (Broadcast (bam.with_next s now)) (omega arith)))

        queued : (s : Window) (at : ℕ) → IsTimelyOut now (burst.queued_to s at now)
        queued s at = either (IsTimelyOut now) (nat_lt s.until at) _ _ (without_soon s.link (max s.unsent at) s.resends (started now T3) (omega arith)) tt

        window : (o : OutState) → IsTimelyOut now o → IsTimelyLane now (lane-pump.after_burst lane (burst.pumped o (lane-pump.front_bytes lane.pending) now)).0
        window (Sending s) k = under (Connection (burst.queued_to s (s.at + burst.burst_packets s) now)) (queued s (s.at + burst.burst_packets s))
        window (AwaitCts s) k = under (Connection (AwaitCts s)) k
        window (AwaitEnd s) k = under (Connection (AwaitEnd s)) k

        by : (u : UnderWay) → lane.under_way ≡ u → IsTimelyLane now (lane-pump.pumped_by u lane now).0
        by Nothing e = idle lane.standing lane.pending
        by (Broadcast s) e = packet s (here (Broadcast s) e)
        by (Connection o) e = window o (here (Connection o) e)

  abbrev pub AreTimelyLanes : Lanes → Type 0
  AreTimelyLanes lanes = (to : ℕ) (lane : Lane) → finmap.get lanes to ≡ Some lane → IsTimelyLane now lane

  lane_put : (lanes : Lanes) (to : ℕ) (lane : Lane) → AreTimelyLanes lanes → IsTimelyLane now lane → AreTimelyLanes (finmap.insert lanes to lane)
  lane_put lanes to lane all h q l is = by (equal_or_not q to)
    where
      by : (q ≡ to) ⊎ (q ≡ to → ⊥) → IsTimelyLane now l
      by (inl e) = let it : lane ≡ l = same_Some lane l (sym (lane_here lanes to lane) ∙ ap (λ x. finmap.get (finmap.insert lanes to lane) x) (sym e) ∙ is) in subst (IsTimelyLane now) it h
      by (inr n) = all q l (sym (lane_else lanes to q lane n) ∙ is)

  lanes_stepped : (lanes : Lanes) (to : ℕ) (step : Lane → Lane × LaneStep) → AreTimelyLanes lanes → ((lane : Lane) → IsTimelyLane now lane → IsTimelyLane now (step lane).0) → AreTimelyLanes (stepped_lanes lanes to step)
  lanes_stepped lanes to step all h = by (finmap.get lanes to) refl
    where
      by : (o : Option Lane) → finmap.get lanes to ≡ o → AreTimelyLanes (elim o as (λ (_ : Option Lane). Lanes) [ None ↦ lanes | Some lane ↦ finmap.insert lanes to (step lane).0 ])
      by None e = all
      by (Some lane) e = lane_put lanes to (step lane).0 all (h lane (all to lane e))

  overrun_soon : (lanes : Lanes) (n : ℕ) → AreTimelyLanes lanes → AreTimelyLanes (overrun_lanes lanes n)
  unfolding overrun_lanes
  overrun_soon lanes zero all = all
  overrun_soon lanes (suc n) all = lanes_stepped (overrun_lanes lanes n) n lane-overrun.overrun (overrun_soon lanes n all) (λ lane h. lane_overrun lane h)

  -- Stations

  pub record Keeps (st new : Station) : Type 0 where
    pub address : new.address ≡ st.address
    pub timely : IsTimelyStation now new

  module _ (st : Station) (h : IsTimelyStation now st) where
    stays : (new : Station) → new.address ≡ st.address → new.sessions ≡ st.sessions → new.lanes ≡ st.lanes → Keeps st new
    stays new a s l = record { address = a; timely = record { sessions = subst AreSoon (sym s) h.sessions; lanes = subst AreTimelyLanes (sym l) h.lanes } }

    sessions_change : (new : Station) → new.address ≡ st.address → new.lanes ≡ st.lanes → AreSoon new.sessions → Keeps st new
    sessions_change new a l s = record { address = a; timely = record { sessions = s; lanes = subst AreTimelyLanes (sym l) h.lanes } }

    lane_steps : (x : Station) → x.address ≡ st.address → AreSoon x.sessions → x.lanes ≡ st.lanes → (to : Address) (step : Lane → Lane × LaneStep) → ((lane : Lane) → IsTimelyLane now lane → IsTimelyLane now (step lane).0) → Keeps st (by_lane x to step).station
    lane_steps x a s l to step k = record { address = a; timely = record { sessions = s; lanes = lanes_stepped x.lanes to.0 step (subst AreTimelyLanes (sym l) h.lanes) k } }

    in_lane_keeps : (x : Station) → x.address ≡ st.address → AreSoon x.sessions → x.lanes ≡ st.lanes → (from : Address) (wire : Wire) → Keeps st (by_lane x from (λ lane. heard lane wire now)).station
    in_lane_keeps x a s l from wire = lane_steps x a s l from (λ lane. heard lane wire now) (λ lane k. lane_heard lane k wire)

    cm_keeps : (frame : CmFrame) (from : Address) (room : Bool) → Keeps st (cm_taken st frame from room now).station
    cm_keeps (Rts size packets most pgn) from room = sessions_change _ refl refl (opening_soon st.ports st.sessions h.sessions st.address (Rts size packets most pgn) from room)
    cm_keeps (Bam size packets pgn) from room = sessions_change _ refl refl (opening_soon st.ports st.sessions h.sessions st.address (Bam size packets pgn) from room)
    cm_keeps (EtpRts size pgn) from room = sessions_change _ refl refl (opening_soon st.ports st.sessions h.sessions st.address (EtpRts size pgn) from room)
    cm_keeps (EtpDpo packets offset pgn) from room = sessions_change _ refl refl (received_soon st.ports st.sessions h.sessions (key_of from session.Etp) (Cm (EtpDpo packets offset pgn)) room)
    cm_keeps (Abort r pgn) from room = in_lane_keeps (record st { sessions = aborted_at (key_of from session.Tp) pgn st.sessions }) refl (aborted_soon st.ports st.sessions h.sessions (key_of from session.Tp) pgn) refl from (Cm (Abort r pgn))
    cm_keeps (EtpAbort r pgn) from room = in_lane_keeps (record st { sessions = aborted_at (key_of from session.Etp) pgn st.sessions }) refl (aborted_soon st.ports st.sessions h.sessions (key_of from session.Etp) pgn) refl from (Cm (EtpAbort r pgn))
    cm_keeps (Cts granted next pgn) from room = in_lane_keeps st refl h.sessions refl from (Cm (Cts granted next pgn))
    cm_keeps (EndOfMsgAck size packets pgn) from room = in_lane_keeps st refl h.sessions refl from (Cm (EndOfMsgAck size packets pgn))
    cm_keeps (EtpCts granted next pgn) from room = in_lane_keeps st refl h.sessions refl from (Cm (EtpCts granted next pgn))
    cm_keeps (EtpEoma size pgn) from room = in_lane_keeps st refl h.sessions refl from (Cm (EtpEoma size pgn))

    ack_keeps : (from : Address) (pgn : ℕ) → Keeps st (record st { lanes = stepped_lanes st.lanes from.0 (λ lane. (answered lane pgn, nothing_to_do)) })
    ack_keeps from pgn = record { address = refl; timely = record { sessions = h.sessions; lanes = lanes_stepped st.lanes from.0 (λ lane. (answered lane pgn, nothing_to_do)) h.lanes (λ lane k. lane_answered lane k pgn) } }

    wire_keeps : (wire : Wire) (from to : Address) (room : Bool) → Keeps st (wire_taken st wire from to room now).station
    wire_keeps (Cm frame) from to room = cm_keeps frame from room
    wire_keeps (Packet kind k bytes) from to room = sessions_change _ refl refl (received_soon st.ports st.sessions h.sessions (key_of from (packet_kind kind to)) (Packet kind k bytes) room)
    wire_keeps (Request pgn) from to room = either (Keeps st) (to.0 == st.address.0) _ _ (stays _ refl refl refl) (stays st refl refl refl)
    wire_keeps (Ack control address pgn) from to room = either (Keeps st) (address.0 == st.address.0 || to.0 == st.address.0) _ _ (ack_keeps from pgn) (stays st refl refl refl)

    pub taken_keeps : (f : CanFrame) (room : Bool) → Keeps st (taken st f room now).station
    taken_keeps f room = either (λ (s : StationStep). Keeps st s.station) (looks_at st f) _ _ (by (reading f)) (stays st refl refl refl)
      where
        by : (o : Option (Wire × Address × Address)) → Keeps st (meaning_taken st o room now).station
        by None = stays st refl refl refl
        by (Some m) = wire_keeps m.0 m.1 m.2 room

    pub fired_keeps : Keeps st (fired st now).station
    fired_keeps = by_option (λ (s : StationStep). Keeps st s.station) (first_due st.sessions now) (lane_fired st now (due_lane st.lanes now)) (λ key. by_session st (fired_at st.ports key now st.sessions)) (by (due_lane st.lanes now)) (λ key. sessions_change _ refl refl (expired_at_soon st.ports st.sessions h.sessions key))
      where
        by : (o : Option ℕ) → Keeps st (lane_fired st now o).station
        by None = stays st refl refl refl
        by (Some to) = lane_steps st refl h.sessions refl (record { 0 = to }) (λ lane. lane-fire.fired lane now) (λ lane k. lane_fires lane k)

    pub pumped_keeps : (to : Address) → Keeps st (pumped st to now).station
    pumped_keeps to = lane_steps st refl h.sessions refl to (λ lane. lane-pump.pumped lane now) (λ lane k. lane_pumped lane k)

    pub overrun_keeps : Keeps st (overrun st).station
    overrun_keeps = record { address = refl; timely = record { sessions = of_each_none (λ k w. IsTimely now (timer_of w.1)); lanes = overrun_soon st.lanes 256 h.lanes } }

    cancelled_lane : (lane : Lane) (number : ℕ) → IsTimelyLane now lane → IsTimelyLane now (lane-cancel.cancelled lane number).0
    cancelled_lane lane number k = by lane.under_way
      where
        withdrawn : IsTimelyLane now (lane-cancel.withdrawn lane number).0
        withdrawn = record { under_way = k.under_way; standing = k.standing }

        by : (u : UnderWay) → IsTimelyLane now (lane-cancel.cancelled_by u lane number).0
        by Nothing = withdrawn
        by (Broadcast s) = either (λ (x : Lane × LaneStep). IsTimelyLane now x.0) (lane-cancel.is_front lane.pending number) _ _ (over_soon lane k outcome.Cancelled None) withdrawn
        by (Connection s) = either (λ (x : Lane × LaneStep). IsTimelyLane now x.0) (lane-cancel.is_front lane.pending number) _ _ (over_soon lane k (out.cancelled (link_of s)).outcome (out.cancelled (link_of s)).frame) withdrawn

    pub cancelled_keeps : (to : Address) (number : ℕ) → Keeps st (cancelled st to number).station
    cancelled_keeps to number = lane_steps st refl h.sessions refl to (λ lane. lane-cancel.cancelled lane number) (λ lane k. cancelled_lane lane number k)

    pub sent_keeps : (to : Address) (pgn : ℕ) (bytes : List ℕ) → Keeps st (sent st to pgn bytes)
    sent_keeps to pgn bytes = record { address = refl; timely = record { sessions = h.sessions; lanes = lane_put st.lanes to.0 (pushed (lane_of st to) pgn bytes) h.lanes (by (finmap.get st.lanes to.0) refl) } }
      where
        by : (o : Option Lane) → finmap.get st.lanes to.0 ≡ o → IsTimelyLane now (pushed (elim o as (λ (_ : Option Lane). Lane) [ None ↦ new_lane st.address.0 to.0 | Some lane ↦ lane ]) pgn bytes)
        by None e = record { under_way = tt; standing = tt }
        by (Some lane) e = record { under_way = (h.lanes to.0 lane e).under_way; standing = (h.lanes to.0 lane e).standing }

    pub queue_keeps : (queue : List CanFrame) → Keeps st (record st { queue = queue })
    queue_keeps queue = stays (record st { queue = queue }) refl refl refl

-- A port closes

module _ (now : ℕ) where
  record Closes (st new : Station) : Type 0 where
    address : new.address ≡ st.address
    lanes : new.lanes ≡ st.lanes
    sessions : AreSoon now new.sessions

  unbound_soon : (m : Inbound) (each : AreSoon now m) (key : Key) (number : ℕ) → AreSoon now (unbound_at key number m).sessions
  unbound_soon m each key number = by (state_at m key) refl
    where
      by : (o : Option (List ℕ × Incoming)) → state_at m key ≡ o → AreSoon now (unbound_by o key number m).sessions
      by None e = each
      by (Some v) e = either (λ (r : Reception). AreSoon now r.sessions) (length (without_number v.0 number) == 0) _ _ (dropped_soon now m key each) (put_soon now m key (without_number v.0 number, v.1) (each key v e) each)

  closes_session : (st new : Station) (source : Address) (kind : SessionKind) (number : ℕ) → Closes st new → Closes st (unbound_session new source kind number)
  closes_session st new source kind number h = record { address = h.address; lanes = h.lanes; sessions = unbound_soon new.sessions h.sessions (key_of source kind) number }

  closes_below : (st new : Station) (number n : ℕ) → Closes st new → Closes st (closed_below new number n)
  unfolding closed_below
  closes_below st new number zero h = h
  closes_below st new number (suc n) h = closes_session st _ (record { 0 = n }) session.Etp number (closes_session st _ (record { 0 = n }) session.Tp number (closes_session st _ (record { 0 = n }) session.Broadcast number (closes_below st new number n h)))

  pub closed_keeps : (st : Station) → IsTimelyStation now st → (number : ℕ) → Keeps now st (closed st number)
  closed_keeps st h number =
      let k : Closes st (closed st number) = closes_below st (record st { ports = without_port st.ports number }) number 254 (record { address = refl; lanes = refl; sessions = h.sessions }) in
      record { address = k.address; timely = record { sessions = k.sessions; lanes = subst (AreTimelyLanes now) (sym k.lanes) h.lanes } }

-- Calls

later_lane : (now later : ℕ) → now ≤ later → (lane : Lane) → IsTimelyLane now lane → IsTimelyLane later lane
later_lane now later l lane h = record { under_way = under lane.under_way h.under_way; standing = standing lane.standing h.standing }
  where
    out : (o : OutState) → IsTimelyOut now o → IsTimelyOut later o
    out (AwaitCts s) k = omega (arith, k, l)
    out (Sending s) k = tt
    out (AwaitEnd s) k = omega (arith, k, l)

    under : (u : UnderWay) → IsTimelyUnder now u → IsTimelyUnder later u
    under Nothing k = tt
    under (Broadcast s) k = omega (arith, k, l)
    under (Connection o) k = out o k

    standing : (s : Standing) → IsTimelyStanding now s → IsTimelyStanding later s
    standing Settled k = tt
    standing InDoubt k = tt
    standing (Probing count timer) k = omega (arith, k, l)

later_station : (now later : ℕ) → now ≤ later → (st : Station) → IsTimelyStation now st → IsTimelyStation later st
later_station now later l st h = record { sessions = λ key v e. (let k = h.sessions key v e in omega (arith, k, l)); lanes = λ to lane e. later_lane now later l lane (h.lanes to lane e) }

module _ (seg : Segment) (h : AreTimely seg) where
  abbrev Timely : Answer → Type 0
  Timely (Err cause) = Unit {0}
  Timely (Ok step) = AreTimely step.0

  or_timely : (b : Bool) (cause : Refusal) (x : Answer) → Timely x → Timely (cond b (Err cause) x)
  or_timely true cause x k = tt
  or_timely false cause x k = k

  at_timely : (a : Address) (does : ℕ → Station → Answer) → ((i : ℕ) (st : Station) → slice_get seg.stations i ≡ Some st → Timely (does i st)) → Timely (at_place seg (place_of seg a) does)
  at_timely a does k = by (place_of seg a)
    where
      there : (i : ℕ) (o : Option Station) → slice_get seg.stations i ≡ o → Timely (at_station o (does i))
      there i None e = tt
      there i (Some st) e = k i st e

      by : (o : Option ℕ) → Timely (at_place seg o does)
      by None = tt
      by (Some i) = there i (slice_get seg.stations i) refl

  module _ (i : ℕ) (st : Station) (at : slice_get seg.stations i ≡ Some st) where
    here_timely : IsTimelyStation seg.now st
    here_timely = h i st at

    next_timely : (new : Station) → Keeps seg.now st new → (j : ℕ) (u : Station) → slice_get (set seg.stations i new) j ≡ Some u → IsTimelyStation seg.now u
    next_timely new k j u e = by (equal_or_not j i)
      where
        by : (j ≡ i) ⊎ (j ≡ i → ⊥) → IsTimelyStation seg.now u
        by (inl q) = let is : new ≡ u = same_Some new u (sym (slice_get_same seg.stations i st new at k.address) ∙ ap (slice_get (set seg.stations i new)) (sym q) ∙ e) in subst (IsTimelyStation seg.now) is k.timely
        by (inr n) = h j u (slice_get_other seg.stations i st new at k.address j u n e)

    take_timely : (room : Bool) (o : Option CanFrame) → Timely (takes_by seg room i st o)
    take_timely room None = tt
    take_timely room (Some f) = or_timely (no_place st) _ _ (next_timely (taken st f room seg.now).station (taken_keeps seg.now st here_timely f room))

    put_timely : (o : Option CanFrame) → Timely (transmits_by seg i st o)
    put_timely None = tt
    put_timely (Some f) = or_timely (bus.is_full seg.bus) _ _ (next_timely (record st { queue = behind st.queue }) (queue_keeps seg.now st here_timely (behind st.queue)))

    pump_timely : (to : Address) (o : Option PumpRefused) → Timely (pumps_by seg to i st o)
    pump_timely to (Some pump.NothingToSend) = tt
    pump_timely to (Some pump.NotYet) = tt
    pump_timely to None = or_timely (nat_lt (free_places st.queue) pump_places) _ _ (next_timely (pumped st to seg.now).station (pumped_keeps seg.now st here_timely to))

  module _ (i : ℕ) (st : Station) (at : slice_get seg.stations i ≡ Some st) where
    stays_timely : (new : Station) → new.address ≡ st.address → new.sessions ≡ st.sessions → new.lanes ≡ st.lanes → (j : ℕ) (u : Station) → slice_get (set seg.stations i new) j ≡ Some u → IsTimelyStation seg.now u
    stays_timely new a s l = next_timely i st at new (stays seg.now st (h i st at) new a s l)

    again_timely : (room : Bool) (o : Option CanFrame) → Timely (repeats_by seg room i st o)
    again_timely room None = tt
    again_timely room (Some f) = or_timely (no_place st) _ _ (next_timely i st at (taken st f room seg.now).station (taken_keeps seg.now st (h i st at) f room))

    send_timely : (to : Address) (pgn : ℕ) (bytes : List ℕ) → Timely (sends seg to pgn bytes i st)
    send_timely to pgn bytes =
        or_timely (to.0 == null_address) _ _
        (or_timely (st.address.0 == to.0) _ _
        (or_timely (nat_lt (length bytes) MIN_SIZE) _ _
        (or_timely (nat_lt (longest_to to.0) (length bytes)) _ _
        (or_timely (is_full (lane_of st to)) _ _ (next_timely i st at (sent st to pgn bytes) (sent_keeps seg.now st (h i st at) to pgn bytes))))))

  call_timely : (call : Call) → Timely (called seg call)
  unfolding called
  call_timely (ask.Take a room) = at_timely a (takes seg room) (λ i st at. take_timely i st at room (bus.next_frame seg.bus i))
  call_timely (ask.Transmit a) = at_timely a (transmits seg) (λ i st at. put_timely i st at (front st.queue))
  call_timely (ask.Overrun a n) = at_timely a (overruns seg n) (λ i st at. or_timely (nat_lt (bus.waiting seg.bus i) n) _ _ (next_timely i st at (overrun st).station (overrun_keeps seg.now st (h i st at))))
  call_timely (ask.Pump a to) = at_timely a (pumps seg to) (λ i st at. or_timely (to.0 == null_address) _ _ (pump_timely i st at to (refusal_at st.lanes to.0 seg.now)))
  call_timely (ask.Fire a) = at_timely a (fires seg) (λ i st at. or_timely (not (is_due st seg.now)) _ _ (or_timely (no_place st) _ _ (next_timely i st at (fired st seg.now).station (fired_keeps seg.now st (h i st at)))))
  call_timely (ask.Tick n) = or_timely (not (nat_lt (seg.now + n) (2 ^ 64))) _ _ (λ i st at. later_station seg.now (seg.now + n) (omega arith) st (h i st at))
  call_timely (ask.Open a pgn max_len) = at_timely a (opens seg pgn max_len) (λ i st at. or_timely (are_full st.ports) _ _ (stays_timely i st at (record st { ports = with_port st.ports pgn max_len }) refl refl refl))
  call_timely (ask.Close port) = at_timely port.station (closes seg port.number) (λ i st at. or_timely (not (is_open st.ports port.number)) _ _ (next_timely i st at (closed st port.number) (closed_keeps seg.now st (h i st at) port.number)))
  call_timely (ask.Send from to pgn bytes) = at_timely from (sends seg to pgn bytes) (λ i st at. send_timely i st at to pgn bytes)
  call_timely (ask.TakeAgain a room) = at_timely a (repeats seg room) (λ i st at. again_timely i st at room (bus.frame_again seg.bus i))
  call_timely (ask.Cancel from to number) = at_timely from (cancels seg to number) (λ i st at.
      or_timely (to.0 == null_address) _ _
      (or_timely (not (is_pending_at st.lanes to.0 number)) _ _
      (or_timely (queues_abort_at st.lanes to.0 number && no_place st) _ _ (next_timely i st at (cancelled st to number).station (cancelled_keeps seg.now st (h i st at) to number)))))
  call_timely (ask.Inject f) = or_timely (has_station seg (meaning_of f.id).from) _ _ (or_timely (bus.is_full seg.bus) _ _ h)
  call_timely (ask.Pause port) = at_timely port.station (pauses seg port.number) (λ i st at. or_timely (not (is_open st.ports port.number)) _ _ (or_timely (is_paused st.ports port.number) _ _ (stays_timely i st at (record st { ports = with_paused st.ports port.number true }) refl refl refl)))
  call_timely (ask.Resume port) = at_timely port.station (resumes seg port.number) (λ i st at. or_timely (not (is_open st.ports port.number)) _ _ (or_timely (not (is_paused st.ports port.number)) _ _ (stays_timely i st at (record st { ports = with_paused st.ports port.number false }) refl refl refl)))

  timely_call : (call : Call) → AreTimely (applied seg call).0
  timely_call call = by (called seg call) (call_timely call)
    where
      by : (x : Answer) → Timely x → AreTimely (replied seg x).0
      by (Err cause) k = h
      by (Ok step) k = k

new_timely : (addresses : List Address) → AreTimely (new_segment addresses)
new_timely addresses i st e = subst (IsTimelyStation 0) (sym (new_at (rising addresses) i st e)) (record { sessions = of_each_none (λ k w. IsTimely 0 (timer_of w.1)); lanes = λ to lane q. absurd (none-some lane (sym (get-empty {X = Lane} nat_cmp to) ∙ q)) })

pub always_timely : (addresses : List Address) (steps : Record) (seg : Segment) → StandsAt addresses steps seg → AreTimely seg
always_timely addresses steps seg h = at_record (λ _ s. AreTimely s) (λ steps s call r is k. timely_call s k call) addresses steps seg h (new_timely addresses)
