-- Messages to a node of which nothing is heard end without an answer.
use Rattle.std.proofs.Common.{◌≡◌, ◌≢◌, ◌⊎◌, inl, inr, ℕ, zero, suc, ◌+◌, ◌-◌, ◌<◌, ◌≤◌, ◌==◌, nat_lt, Bool, true, false, cond, not, ◌&&◌, ◌||◌, List, [], ◌∷◌, ◌++◌, length, drop, set, Option, Some, None, Ok, Err, refl, sym, ap, ◌∙◌, subst, arith, true≢false, ne_eqb, ltb-true, ltb-false, eqb-true}
use Rattle.std.specs.Prelude.{slice_get, is_some}
use Rattle.std.specs.List.{list_all}
use Rattle.std.specs.FinMap as finmap
use Rattle.std.proofs.lemmas.Bool.{eqb-false}
use Rattle.std.proofs.lemmas.List.{append-nil, append_assoc, drop_all}
use Rattle.std.proofs.lemmas.List.Folds.{list_all-append}
use Rattle.std.proofs.lemmas.Option.{same_Some, none-some, slice_get_within}
use Rattle.bus_frame.specs.Frames.{CanFrame}
use Rattle.pgn_ids.specs.Identifier.{meaning_of}
use Rattle.pgn_ids.specs.declared.address.Address.{Address}
use Rattle.tx_queue.specs.Queue.{front, behind}
use Rattle.bus_order.specs.Bus as bus
use Rattle.bus_order.specs.Bus.{Bus, bus_len, cursor_at, next_frame, waiting}
use Rattle.tp_wire.specs.Reading.{reading}
use Rattle.tp_wire.specs.declared.constants.TheConstants.{ETP_MAX_WINDOW}
use Rattle.tp_wire.specs.declared.outcome.Outcome.{Outcome}
use Rattle.tp_wire.specs.declared.outcome.Outcome.TheVariants as outcome
use Rattle.tp_wire.specs.declared.wire.Kind.{Kind}
use Rattle.tp_wire.specs.declared.wire.Kind.TheVariants.{Tp, Etp}
use Rattle.tp_wire.specs.declared.wire.CmFrame.{CmFrame}
use Rattle.tp_wire.specs.declared.wire.CmFrame.TheVariants.{Rts, Cts, EndOfMsgAck, Bam, Abort, EtpRts, EtpCts, EtpDpo, EtpEoma, EtpAbort}
use Rattle.tp_wire.specs.declared.wire.Wire.{Wire}
use Rattle.tp_wire.specs.declared.wire.Wire.TheVariants.{Cm, Packet, Request, Ack}
use Rattle.port_table.specs.Ports.{Ports}
use Rattle.responder.specs.Window.{most_of}
use Rattle.responder.specs.Room.{prepared, prepared_to_expire}
use Rattle.responder.specs.Steps.{stepped as connection_stepped, expired}
use Rattle.responder.specs.declared.flow.Flow.{Flow}
use Rattle.responder.specs.declared.received.Received.{Received}
use Rattle.responder.specs.declared.received.Received.TheVariants as received
use Rattle.bam_session.specs.States as bam
use Rattle.bam_session.specs.Receiving as bam-steps
use Rattle.lane_core.specs.Endings.{front_ended}
use Rattle.lane_core.specs.Fire as lane-fire
use Rattle.lane_core.specs.Hear.{heard}
use Rattle.lane_core.specs.Lane.{Lane}
use Rattle.lane_core.specs.Overrun as lane-overrun
use Rattle.lane_core.specs.Probe.{most_requests}
use Rattle.lane_core.specs.Pump as lane-pump
use Rattle.lane_core.specs.Step.{LaneStep, nothing_to_do}
use Rattle.lane_core.specs.declared.message.Pending.{Pending}
use Rattle.lane_core.specs.declared.place.UnderWay.{UnderWay}
use Rattle.lane_core.specs.declared.place.UnderWay.TheVariants.{Nothing, Broadcast, Connection}
use Rattle.lane_core.specs.declared.probe.Standing.{Standing}
use Rattle.lane_core.specs.declared.probe.Standing.TheVariants.{Settled, InDoubt, Probing}
use Rattle.lane_core.specs.declared.step.Ended.{Ended}
use Rattle.session_table.specs.DueOrder.{first_due}
use Rattle.session_table.specs.Key.{session_for}
use Rattle.session_table.specs.Sessions.{state_at}
use Rattle.session_table.specs.declared.key.Key.{Key}
use Rattle.session_table.specs.declared.key.SessionKind.TheVariants as session
use Rattle.session_table.specs.declared.incoming.Incoming.{Incoming}
use Rattle.session_table.specs.declared.incoming.Incoming.TheVariants as incoming
use Rattle.message_events.specs.declared.event.Event.{Event}
use Rattle.station_lanes.specs.Lanes.{Lanes}
use Rattle.station_lanes.specs.LaneCalls.{step_at, outcome_of}
use Rattle.station_lanes.specs.LaneReaders.{due_lane, overrun_lanes, overrun_events}
use Rattle.station_sessions.specs.Given.{given_to}
use Rattle.station_sessions.specs.Opening.{key_of, refusal, is_tp_size, is_etp_size, set_for, others_than, rts_received, bam_received}
use Rattle.station_sessions.specs.Receiving.{Inbound, Reception, broadcast_settled, connection_settled, session_stepped, session_fired, flow_at, received_by, received as frame_received, fired_by, fired_at}
use Rattle.station_core.specs.Station.{Station, StationStep, by_session}
use Rattle.station_core.specs.Sending.{pumped}
use Rattle.station_core.specs.Taking.{packet_kind, cm_taken, wire_taken, looks_at, meaning_taken, taken}
use Rattle.station_core.specs.Timers.{lane_fired, fired}
use Rattle.station_core.specs.Overruns.{overrun}
use Rattle.segment_law.specs.Segment.{Segment, place_of, has_station, with_station}
use Rattle.segment_law.specs.Calls.{applied, events_of, with_frame}
use Rattle.segment_law.specs.Drive.{events_in}
use Rattle.segment_law.specs.Record.{Step, Record, StandsAt}
use Rattle.segment_law.specs.Reached.{IsReached}
use Rattle.segment_law.specs.declared.counts.Counts.{Counts}
use Rattle.segment_law.specs.declared.call.Call.{Call}
use Rattle.segment_law.specs.declared.call.Call.TheVariants as ask
use Rattle.segment_law.specs.declared.reply.Reply.{Reply}
use Rattle.segment_law.specs.declared.reply.Reply.TheVariants.{Refused}
use Rattle.segment_law.proofs.Booleans.{both_pass}
use Rattle.segment_law.proofs.Buses.{frame_within}
use Rattle.segment_law.proofs.Drifting.{stands_drifts}
use Rattle.segment_law.proofs.FitStations.{taken_stays, pumped_stays, fired_stays}
use Rattle.segment_law.proofs.Reaching.{as_it_is, position_kept, slice_get_other}
use Rattle.segment_law.proofs.Records.{stands_reached, call_goes_on}
use Rattle.record_law.proofs.EachCall.{OfStation, each_applied}
use Rattle.record_law.proofs.Lists.{Each}
use Rattle.record_law.proofs.Readings.{GivesBack, ReadsBack}
use Rattle.record_law.proofs.Tests.{either, by_option, equal_or_not}
use Rattle.exchange_law.proofs.broadcasts.Sweeps.{events-append}
use Rattle.broadcast_law.proofs.Buses.{IsTaken, taken_here, taken_ahead_else, passed_ahead, passed_ahead_else, put_ahead}
use Rattle.broadcast_law.proofs.Carried.{IsRead, reading_tells}
use Rattle.broadcast_law.proofs.LaneSteps.{FitsUnderWay, IsLaneOf}
use Rattle.broadcast_law.proofs.Places.{AllOwn}
use Rattle.broadcast_law.proofs.Send.{AreSeven}
use Rattle.broadcast_law.proofs.Stations.{IsOwn}
use Rattle.broadcast_law.proofs.View.{GoesOn}
use Rattle.work_law.specs.Work.{ahead_of}
use Rattle.work_law.specs.Rest.{HasRested}
use Rattle.work_law.proofs.Along.{known}
use Rattle.segment_drain.specs.Chosen.{next_of}
use Rattle.segment_drain.specs.Drains.{Drain, makes, undrained, drained, is_drain_call}
use Rattle.segment_drain.specs.declared.choosing.Next.TheVariants.{Make}
use Rattle.segment_drain.proofs.Wholes.{Fits, next_fits, drained_keeps}
use Rattle.drain_law.specs.Unheard.{is_from, IsUnheard, is_unanswered, ends_unanswered, NoneAnswers, RestIsUnheard}

module _ (d : Address) where
  abbrev Fine : List Event → Type 0
  Fine events = list_all (ends_unanswered d) events ≡ true

  fine_append : (xs ys : List Event) → Fine xs → Fine ys → Fine (xs ++ ys)
  fine_append xs ys h k = list_all-append (ends_unanswered d) xs ys ∙ (λ i. h i && k i)

  -- a message to another node ends
  other_fine : (from to : Address) (o : Option Ended) → (to.0 ≡ d.0 → ⊥) → Fine (outcome_of from to o)
  other_fine from to None n = refl
  other_fine from to (Some e) n = ap (λ b. (not b || is_unanswered e.outcome) && true) (ne_eqb to.0 d.0 n)

  -- or any, without an answer
  abbrev IsSilent : Option Ended → Type 0
  IsSilent None = Unit {0}
  IsSilent (Some e) = is_unanswered e.outcome ≡ true

  silent_fine : (from to : Address) (o : Option Ended) → IsSilent o → Fine (outcome_of from to o)
  silent_fine from to None h = refl
  silent_fine from to (Some e) h = by (to.0 == d.0)
    where
      by : (b : Bool) → ((not b || is_unanswered e.outcome) && true) ≡ true
      by true = ap (λ x. x && true) h
      by false = refl

  -- ---- sessions give, and end nothing

  given_fine : (station : Address) (set : List ℕ) (m : _) → Fine (given_to station set m)
  given_fine station [] m = refl
  given_fine station (k ∷ set) m = given_fine station set m

  module _ (station : Address) (key : Key) (set : List ℕ) (m : Inbound) where
    settled_fine : (room : Bool) (r : Received) → Fine (connection_settled station key set room m r).events
    settled_fine room (received.On s frame) = refl
    settled_fine room (received.Ended frame) = refl
    settled_fine room (received.Complete w) = either (λ (r : Reception). Fine r.events) room _ _ (given_fine station set _) refl

    broadcast_fine : (room : Bool) (s : bam.Incoming) (r : bam-steps.Received) → Fine (broadcast_settled station key set room m s r).events
    broadcast_fine room s (bam-steps.Awaits t) = refl
    broadcast_fine room s (bam-steps.Completes bytes) = either (λ (r : Reception). Fine r.events) room _ _ (given_fine station set _) refl
    broadcast_fine room s bam-steps.Drops = refl

    stepped_fine : (room : Bool) (flow : Flow) (s : Incoming) (wire : Wire) (now : ℕ) → Fine (session_stepped station key set room m flow s wire now).events
    stepped_fine room flow (incoming.Broadcast s) wire now = broadcast_fine room s (bam-steps.stepped s wire now)
    stepped_fine room flow (incoming.Connection s) wire now = settled_fine room (connection_stepped (prepared s wire room flow) wire room flow now)

    expired_fine : (flow : Flow) (s : Incoming) (now : ℕ) → Fine (session_fired station key set m flow s now).events
    expired_fine flow (incoming.Broadcast s) now = refl
    expired_fine flow (incoming.Connection s) now = settled_fine true (expired (prepared_to_expire s flow) flow now)

  received_fine : (ports : Ports) (key : Key) (wire : Wire) (room : Bool) (now : ℕ) (m : Inbound) → Fine (frame_received ports key wire room now m).events
  received_fine ports key wire room now m = by (state_at m key)
    where
      by : (o : Option (List ℕ × Incoming)) → Fine (received_by o ports key wire room now m).events
      by None = refl
      by (Some v) = stepped_fine ports.station key v.0 m room (flow_at ports v.0) v.1 wire now

  fired_session_fine : (ports : Ports) (key : Key) (now : ℕ) (m : Inbound) → Fine (fired_at ports key now m).events
  fired_session_fine ports key now m = by (state_at m key)
    where
      by : (o : Option (List ℕ × Incoming)) → Fine (fired_by o ports key now m).events
      by None = refl
      by (Some v) = expired_fine ports.station key v.0 m (flow_at ports v.0) v.1 now

  rts_fine : (own : Address) (ports : Ports) (kind : Kind) (is_size : Bool) (from : Address) (size most pgn : ℕ) (room : Bool) (now : ℕ) (m : Inbound) → Fine (rts_received own ports kind is_size from size most pgn room now m).events
  rts_fine own ports kind is_size from size most pgn room now m = by_option (λ (r : Reception). Fine r.events) (refusal is_size room (set_for ports pgn size) (others_than m (key_of from (session_for kind)))) _ _ refl (λ r. refl)

  bam_fine : (ports : Ports) (from : Address) (size packets pgn : ℕ) (room : Bool) (now : ℕ) (m : Inbound) → Fine (bam_received ports from size packets pgn room now m).events
  bam_fine ports from size packets pgn room now m = by_option (λ (r : Reception). Fine r.events) (refusal (is_tp_size size packets) room (set_for ports pgn size) (others_than m (key_of from session.Broadcast))) _ _ refl (λ r. refl)

  -- ---- a frame of another node is taken

  module _ (st : Station) (from : Address) (room : Bool) (now : ℕ) (other : from.0 ≡ d.0 → ⊥) where
    heard_fine : (lanes : Lanes) (wire : Wire) → Fine (outcome_of st.address from (step_at lanes from.0 (λ lane. heard lane wire now)).ended)
    heard_fine lanes wire = other_fine st.address from (step_at lanes from.0 (λ lane. heard lane wire now)).ended other

    cm_fine : (frame : CmFrame) → Fine (cm_taken st frame from room now).events
    cm_fine (Rts size packets most pgn) = rts_fine st.address st.ports Tp (is_tp_size size packets) from size (most_of Tp most) pgn room now st.sessions
    cm_fine (EtpRts size pgn) = rts_fine st.address st.ports Etp (is_etp_size size) from size ETP_MAX_WINDOW pgn room now st.sessions
    cm_fine (Bam size packets pgn) = bam_fine st.ports from size packets pgn room now st.sessions
    cm_fine (EtpDpo packets offset pgn) = received_fine st.ports (key_of from session.Etp) (Cm (EtpDpo packets offset pgn)) room now st.sessions
    cm_fine (Abort r pgn) = heard_fine st.lanes (Cm (Abort r pgn))
    cm_fine (EtpAbort r pgn) = heard_fine st.lanes (Cm (EtpAbort r pgn))
    cm_fine (Cts granted next pgn) = heard_fine st.lanes (Cm (Cts granted next pgn))
    cm_fine (EndOfMsgAck size packets pgn) = heard_fine st.lanes (Cm (EndOfMsgAck size packets pgn))
    cm_fine (EtpCts granted next pgn) = heard_fine st.lanes (Cm (EtpCts granted next pgn))
    cm_fine (EtpEoma size pgn) = heard_fine st.lanes (Cm (EtpEoma size pgn))

    wire_fine : (wire : Wire) (to : Address) → Fine (wire_taken st wire from to room now).events
    wire_fine (Cm frame) to = cm_fine frame
    wire_fine (Packet kind k bytes) to = received_fine st.ports (key_of from (packet_kind kind to)) (Packet kind k bytes) room now st.sessions
    wire_fine (Request pgn) to = refl
    wire_fine (Ack control address pgn) to = refl

  taken_fine : (st : Station) (f : CanFrame) (room : Bool) (now : ℕ) → not (is_from d f) ≡ true → Fine (taken st f room now).events
  taken_fine st f room now other = either (λ (s : StationStep). Fine s.events) (looks_at st f) _ _ (by (reading f) refl) refl
    where
      apart : (b : Bool) → not b ≡ true → b ≡ false
      apart true e = absurd (true≢false (sym e))
      apart false e = refl

      by : (o : Option (Wire × Address × Address)) → reading f ≡ o → Fine (meaning_taken st o room now).events
      by None e = refl
      by (Some m) e =
          let r : IsRead f m = reading_tells f m e in
          wire_fine st m.1 room now (λ q. eqb-false (meaning_of f.id).from.0 d.0 (apart (is_from d f) other) (ap (λ (a : Address). a.0) (sym r.source) ∙ q)) m.0 m.2

  -- ---- timers, pumps and overruns

  front_silent : (ms : List Pending) (o : Outcome) → is_unanswered o ≡ true → IsSilent (front_ended ms o)
  front_silent [] o h = tt
  front_silent (m ∷ ms) o h = h

  fired_silent : (lane : Lane) (now : ℕ) → IsSilent (lane-fire.fired lane now).1.ended
  fired_silent lane now = by lane.under_way
    where
      asks : (s : Standing) → IsSilent (lane-fire.probe_fired s lane now).1.ended
      asks (Probing count timer) = either (λ (x : Lane × LaneStep). IsSilent x.1.ended) (nat_lt count most_requests) _ _ tt (front_silent lane.pending outcome.Unreachable refl)
      asks Settled = tt
      asks InDoubt = tt

      by : (u : UnderWay) → IsSilent (lane-fire.fired_by u lane now).1.ended
      by Nothing = asks lane.standing
      by (Broadcast s) = tt
      by (Connection o) = front_silent lane.pending outcome.TimedOut refl

  overrun_silent : (lane : Lane) → IsSilent (lane-overrun.overrun lane).1.ended
  overrun_silent lane = by lane.under_way
    where
      by : (u : UnderWay) → IsSilent (lane-overrun.overrun_by u lane).1.ended
      by Nothing = tt
      by (Broadcast s) = tt
      by (Connection o) = front_silent lane.pending outcome.Overrun refl

  step_fine : (from : Address) (lanes : Lanes) (to : ℕ) (step : Lane → Lane × LaneStep) → ((lane : Lane) → IsSilent (step lane).1.ended) → Fine (outcome_of from (record { 0 = to }) (step_at lanes to step).ended)
  step_fine from lanes to step h = silent_fine from (record { 0 = to }) (step_at lanes to step).ended (by (finmap.get lanes to))
    where
      by : (o : Option Lane) → IsSilent (elim o as (λ (_ : Option Lane). LaneStep) [ None ↦ nothing_to_do | Some lane ↦ (step lane).1 ]).ended
      by None = tt
      by (Some lane) = h lane

  fire_fine : (st : Station) (now : ℕ) → Fine (fired st now).events
  fire_fine st now = by_option (λ (s : StationStep). Fine s.events) (first_due st.sessions now) (lane_fired st now (due_lane st.lanes now)) (λ key. by_session st (fired_at st.ports key now st.sessions)) (by (due_lane st.lanes now)) (λ key. fired_session_fine st.ports key now st.sessions)
    where
      by : (o : Option ℕ) → Fine (lane_fired st now o).events
      by None = refl
      by (Some to) = step_fine st.address st.lanes to (λ l. lane-fire.fired l now) (λ l. fired_silent l now)

  overrun_fine : (from : Address) (lanes : Lanes) (n : ℕ) → Fine (overrun_events from lanes n)
  unfolding overrun_events
  overrun_fine from lanes zero = refl
  overrun_fine from lanes (suc n) = fine_append (overrun_events from lanes n) (outcome_of from (record { 0 = n }) (step_at (overrun_lanes lanes n) n lane-overrun.overrun).ended) (overrun_fine from lanes n) (step_fine from (overrun_lanes lanes n) n lane-overrun.overrun overrun_silent)

  -- only a broadcast ends where it is pumped
  module _ (node_d : d.0 ≢ 255) where
    pump_fine : (st : Station) → IsOwn st.address st → (to : Address) (now : ℕ) → Fine (pumped st to now).events
    pump_fine st own to now = by-case (equal_or_not to.0 d.0)
      where
        none_ends : (lane : Lane) → FitsUnderWay st.address.0 to.0 lane.under_way → to.0 ≢ 255 → IsSilent (lane-pump.pumped lane now).1.ended
        none_ends lane h n = by lane.under_way h
          where
            idle : (s : Standing) (ms : List Pending) → IsSilent (lane-pump.idle_pumped s ms lane now).1.ended
            idle Settled (m ∷ ms) = either (λ (x : Lane × LaneStep). IsSilent x.1.ended) (lane.to == 255) _ _ tt tt
            idle InDoubt (m ∷ ms) = tt
            idle (Probing count timer) (m ∷ ms) = tt
            idle Settled [] = tt
            idle InDoubt [] = tt
            idle (Probing count timer) [] = tt

            by : (u : UnderWay) → FitsUnderWay st.address.0 to.0 u → IsSilent (lane-pump.pumped_by u lane now).1.ended
            by Nothing k = idle lane.standing lane.pending
            by (Broadcast s) k = absurd (n k.1)
            by (Connection o) k = tt

        at_lane : to.0 ≢ 255 → (o : Option Lane) → finmap.get st.lanes to.0 ≡ o → IsSilent (elim o as (λ (_ : Option Lane). LaneStep) [ None ↦ nothing_to_do | Some lane ↦ (lane-pump.pumped lane now).1 ]).ended
        at_lane n None e = tt
        at_lane n (Some lane) e = none_ends lane (own.lanes to.0 lane e).under_way n

        by-case : (to.0 ≡ d.0) ⊎ (to.0 ≡ d.0 → ⊥) → Fine (pumped st to now).events
        by-case (inl e) = silent_fine st.address to _ (at_lane (λ q. node_d (sym e ∙ q)) (finmap.get st.lanes to.0) refl)
        by-case (inr n) = other_fine st.address to _ n

    -- ---- calls

    abbrev Others : List CanFrame → Type 0
    Others frames = list_all (λ f. not (is_from d f)) frames ≡ true

    -- what a call of a drain tells and leaves
    abbrev Keeps : Call → Segment × Reply → Type 0
    Keeps call step = is_drain_call call ≡ true → Fine (events_of step.1) × IsUnheard d step.0

    others_drop : (n : ℕ) (fs : List CanFrame) → Others fs → Others (drop n fs)
    others_drop zero fs h = h
    others_drop (suc n) [] h = refl
    others_drop (suc n) (f ∷ fs) h = others_drop n fs (both_pass (not (is_from d f)) (list_all (λ g. not (is_from d g)) fs) h).1

    module _ (seg : Segment) (r : IsReached seg) (each : AllOwn seg) (h : IsUnheard d seg) where
      -- the addresses of the stations stay, and so do the frames that wait
      module _ (next : Segment) (stations : (j : ℕ) (u : Station) → slice_get next.stations j ≡ Some u → (z : Station) × (slice_get seg.stations j ≡ Some z)) (places : place_of next d ≡ place_of seg d)
          (ahead : (j : ℕ) (z : Station) → slice_get seg.stations j ≡ Some z → Others (ahead_of next.bus j)) where
        unheard : IsUnheard d next
        unheard = record {
          foreign = ap (λ (o : Option ℕ). is_some o) places ∙ h.foreign;
          none_waits = λ j u e. (let z = stations j u e in ahead j z.0 z.1);
        }

      module _ (i : ℕ) (st : Station) (at : slice_get seg.stations i ≡ Some st) where
        inside : i < length seg.bus.cursors
        inside = let l : i < length seg.stations = slice_get_within seg.stations i st at in omega (arith, l, r.bus.cursors)

        cursor_at_all : (j : ℕ) (z : Station) → slice_get seg.stations j ≡ Some z → j < length seg.bus.cursors
        cursor_at_all j z e = let l : j < length seg.stations = slice_get_within seg.stations j z e in omega (arith, l, r.bus.cursors)

        was : (new : Station) → new.address ≡ st.address → (j : ℕ) (u : Station) → slice_get (set seg.stations i new) j ≡ Some u → (z : Station) × (slice_get seg.stations j ≡ Some z)
        was new address j u e = by (equal_or_not j i)
          where
            by : (j ≡ i) ⊎ (j ≡ i → ⊥) → (z : Station) × (slice_get seg.stations j ≡ Some z)
            by (inl q) = (st, ap (slice_get seg.stations) q ∙ at)
            by (inr n) = (u, slice_get_other seg.stations i st new at address j u n e)

        -- the station changes, and the bus by what it took or put
        changed : (new : Station) → new.address ≡ st.address → (now : ℕ) (b : Bus) (counts : Counts) → ((j : ℕ) (z : Station) → slice_get seg.stations j ≡ Some z → Others (ahead_of b j)) → IsUnheard d (record { now = now; stations = set seg.stations i new; bus = b; counts = counts })
        changed new address now b counts ahead = unheard (record { now = now; stations = set seg.stations i new; bus = b; counts = counts }) (was new address) (position_kept seg.stations i st new at address d) ahead

        takes_keep : (a : Address) (room : Bool) (f : CanFrame) → next_frame seg.bus i ≡ Some f → Fine (taken st f room seg.now).events × ((j : ℕ) (z : Station) → slice_get seg.stations j ≡ Some z → Others (ahead_of (bus.released (bus.taken seg.bus i)) j))
        takes_keep a room f next =
            let w : (cursor_at seg.bus i).place + 1 ≤ bus_len seg.bus = frame_within seg.bus ((cursor_at seg.bus i).place + 1) f next in
            let t : IsTaken seg.bus i f = taken_here seg.bus i f r.bus.sound inside next w in
            let parts = both_pass (not (is_from d f)) (list_all (λ g. not (is_from d g)) t.rest) (subst Others t.before (h.none_waits i st at)) in
            (taken_fine st f room seg.now parts.0, λ j z e. ahead t.rest t.ahead parts.1 w j z e (equal_or_not j i))
          where
            ahead : (rest : List CanFrame) → ahead_of (bus.released (bus.taken seg.bus i)) i ≡ rest → Others rest → (cursor_at seg.bus i).place + 1 ≤ bus_len seg.bus → (j : ℕ) (z : Station) → slice_get seg.stations j ≡ Some z → (j ≡ i) ⊎ (j ≡ i → ⊥) → Others (ahead_of (bus.released (bus.taken seg.bus i)) j)
            ahead rest is others w j z e (inl q) = subst (λ (k : ℕ). Others (ahead_of (bus.released (bus.taken seg.bus i)) k)) (sym q) (subst Others (sym is) others)
            ahead rest is others w j z e (inr n) = subst Others (sym (taken_ahead_else seg.bus i f r.bus.sound inside next w j (cursor_at_all j z e) n)) (h.none_waits j z e)

        puts_keep : (f : CanFrame) → front st.queue ≡ Some f → (j : ℕ) (z : Station) → slice_get seg.stations j ≡ Some z → Others (ahead_of (bus.put seg.bus f) j)
        puts_keep f first j z e =
            subst Others (sym (put_ahead seg.bus j f r.bus.sound (cursor_at_all j z e)))
            (list_all-append (λ g. not (is_from d g)) (ahead_of seg.bus j) (f ∷ []) ∙ (λ k. h.none_waits j z e k && (own_frame k && true)))
          where
            first_own : (q : List CanFrame) → Each (λ (g : CanFrame). (meaning_of g.id).from.0 ≡ st.address.0) q → front q ≡ Some f → (meaning_of f.id).from.0 ≡ st.address.0
            first_own [] k w = absurd (none-some f w)
            first_own (g ∷ q) k w = subst (λ (x : CanFrame). (meaning_of x.id).from.0 ≡ st.address.0) (same_Some g f w) k.0

            not_d : st.address.0 ≡ d.0 → ⊥
            not_d e =
                let same : st.address ≡ d = (λ k. record { 0 = e k }) in
                true≢false (ap (λ (o : Option ℕ). is_some o) (sym (r.places i st at)) ∙ ap (λ (x : Address). is_some (place_of seg x)) same ∙ h.foreign)

            own_frame : not (is_from d f) ≡ true
            own_frame = ap not (ne_eqb (meaning_of f.id).from.0 d.0 (λ q. not_d (sym (first_own st.queue (each i st at).queue first) ∙ q)))

        passes_keep : (n : ℕ) → nat_lt (waiting seg.bus i) n ≡ false → (j : ℕ) (z : Station) → slice_get seg.stations j ≡ Some z → Others (ahead_of (bus.released (bus.passed seg.bus i n)) j)
        passes_keep n few j z e = by (equal_or_not j i)
          where
            le : n ≤ waiting seg.bus i
            le = ltb-false (waiting seg.bus i) n few

            by : (j ≡ i) ⊎ (j ≡ i → ⊥) → Others (ahead_of (bus.released (bus.passed seg.bus i n)) j)
            by (inl q) = subst (λ (k : ℕ). Others (ahead_of (bus.released (bus.passed seg.bus i n)) k)) (sym q) (subst Others (sym (passed_ahead seg.bus i n r.bus.sound inside le)) (others_drop n (ahead_of seg.bus i) (h.none_waits i st at)))
            by (inr m) = subst Others (sym (passed_ahead_else seg.bus i n r.bus.sound inside le j (cursor_at_all j z e) m)) (h.none_waits j z e)

        of_station : OfStation seg Keeps i st
        of_station = record {
          opens = λ a pgn max_len q is. absurd (true≢false (sym is));
          closes = λ port q opened is. absurd (true≢false (sym is));
          sends = λ from to pgn bytes q other long short is. absurd (true≢false (sym is));
          pumps = λ a to q is. (pump_fine st (each i st at) to seg.now, changed (pumped st to seg.now).station (pumped_stays st.address st to seg.now (as_it_is seg r i st at)).address seg.now seg.bus _ (λ j z e. h.none_waits j z e));
          transmits = λ a f q first free is. (refl, changed (record st { queue = behind st.queue }) refl seg.now (bus.put seg.bus f) _ (puts_keep f first));
          takes = λ a room f q next free is. (let k = takes_keep a room f next in (k.0, changed (taken st f room seg.now).station (taken_stays st.address st f room seg.now (as_it_is seg r i st at)).address seg.now (bus.released (bus.taken seg.bus i)) _ k.1));
          repeats = λ a room f q next free is. absurd (true≢false (sym is));
          overruns = λ a n q few is. (overrun_fine st.address st.lanes 256, changed (overrun st).station refl seg.now (bus.released (bus.passed seg.bus i n)) _ (passes_keep n few));
          fires = λ a q is. (fire_fine st seg.now, changed (fired st seg.now).station (fired_stays st.address st seg.now (as_it_is seg r i st at)).address seg.now seg.bus _ (λ j z e. h.none_waits j z e));
          cancels = λ from to number q pending is. absurd (true≢false (sym is));
          pauses = λ port q is. absurd (true≢false (sym is));
          resumes = λ port q is. absurd (true≢false (sym is));
        }

      keeps : (call : Call) → Keeps call (applied seg call)
      keeps call = each_applied seg Keeps (record {
        station = of_station;
        ticks = λ n is. (refl, unheard (record seg { now = seg.now + n }) (λ j u e. (u, e)) refl (λ j z e. h.none_waits j z e));
        injects = λ f foreign free is. absurd (true≢false (sym is));
      }) (λ call cause is. (refl, h)) call

-- ---- a whole drain

events_push : (test : Event → Bool) (xs : Record) (x : Step) → list_all test (events_in xs) ≡ true → list_all test (events_of x.1) ≡ true → list_all test (events_in (xs ++ x ∷ [])) ≡ true
events_push test xs x h k =
    ap (list_all test) (events-append xs (x ∷ []))
    ∙ list_all-append test (events_in xs) (events_in (x ∷ []))
    ∙ (λ i. h i && (ap (list_all test) (append-nil (events_of x.1)) ∙ k) i)

module _ (addresses : List Address) (steps : Record) where
  stands_first : (seg : Segment) → StandsAt addresses steps seg → StandsAt addresses (steps ++ []) seg
  stands_first seg h = subst (λ (all : Record). StandsAt addresses all seg) (sym (append-nil steps)) h

  stands_more : (x : Drain) (call : Call) → next_of x.segment ≡ Make call → StandsAt addresses (steps ++ x.calls) x.segment → StandsAt addresses (steps ++ (makes x call (applied x.segment call)).calls) (applied x.segment call).0
  stands_more x call e k = subst (λ (all : Record). StandsAt addresses all (applied x.segment call).0) (append_assoc steps x.calls ((call, (applied x.segment call).1) ∷ [])) (call_goes_on addresses (steps ++ x.calls) x.segment call k (subst Fits e (next_fits x.segment)).0)

module _ (goes : GoesOn) (gives : GivesBack) (reads : ReadsBack) (seven : AreSeven) where
  pub none_answers : NoneAnswers
  none_answers addresses steps seg d stands node_d unheard turns = (drained_keeps All more (λ x why k. k) seg (stands_first addresses steps seg stands, (refl, unheard)) turns).1
    where
      All : Drain → Type 0
      All x = StandsAt addresses (steps ++ x.calls) x.segment × ((list_all (ends_unanswered d) (events_in x.calls) ≡ true) × IsUnheard d x.segment)

      more : (x : Drain) (call : Call) → next_of x.segment ≡ Make call → All x → All (makes x call (applied x.segment call))
      more x call e k =
          let fits = subst Fits e (next_fits x.segment) in
          let own : AllOwn x.segment = (known goes gives reads seven addresses (steps ++ x.calls) x.segment (stands_drifts addresses (steps ++ x.calls) x.segment k.0)).0 in
          let step = keeps d node_d x.segment (stands_reached addresses (steps ++ x.calls) x.segment k.0) own k.1.1 call fits.1 in
          (stands_more addresses steps x call e k.0, (events_push (ends_unanswered d) x.calls (call, (applied x.segment call).1) k.1.0 step.0, step.1))

-- at rest nothing waits
pub rest_is_unheard : RestIsUnheard
rest_is_unheard addresses steps seg d stands rested foreign = record { foreign = foreign; none_waits = none }
  where
    r : IsReached seg
    r = stands_reached addresses steps seg stands

    none : (i : ℕ) (st : Station) → slice_get seg.stations i ≡ Some st → list_all (λ f. not (is_from d f)) (ahead_of seg.bus i) ≡ true
    none i st at =
        let nothing : waiting seg.bus i ≡ 0 = (rested i st at).taken in
        let one : 1 ≤ seg.bus.first = r.bus.sound.from_one in
        ap (list_all (λ f. not (is_from d f))) (drop_all ((cursor_at seg.bus i).place + 1 - seg.bus.first) seg.bus.kept (omega (arith, nothing, one)))
