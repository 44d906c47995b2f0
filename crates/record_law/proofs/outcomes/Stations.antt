-- What each call of a station tells of its lanes.
use Rattle.std.proofs.Common.{◌≡◌, ℕ, zero, suc, ◌==◌, Bool, true, false, cond, ◌||◌, [], ◌∷◌, Option, Some, None, refl, sym, ap, ◌∙◌, subst}
use Rattle.std.specs.FinMap as finmap
use Rattle.bus_frame.specs.Frames.{CanFrame}
use Rattle.pgn_ids.specs.declared.address.Address.{Address}
use Rattle.tp_wire.specs.Reading.{reading}
use Rattle.tp_wire.specs.declared.reason.AbortReason.{AbortReason}
use Rattle.tp_wire.specs.declared.wire.CmFrame.{CmFrame}
use Rattle.tp_wire.specs.declared.wire.CmFrame.TheVariants.{Rts, Cts, EndOfMsgAck, Bam, Abort, EtpRts, EtpCts, EtpDpo, EtpEoma, EtpAbort}
use Rattle.tp_wire.specs.declared.wire.Wire.{Wire}
use Rattle.tp_wire.specs.declared.wire.Wire.TheVariants.{Cm, Packet, Request, Ack}
use Rattle.port_table.specs.Ports.{without_port}
use Rattle.lane_core.specs.Lane.{Lane}
use Rattle.lane_core.specs.Hear.{heard}
use Rattle.lane_core.specs.Answer.{answered}
use Rattle.lane_core.specs.Step.{nothing_to_do, LaneStep}
use Rattle.lane_core.specs.Pump as lane-pump
use Rattle.lane_core.specs.Fire as lane-fire
use Rattle.lane_core.specs.Cancel as lane-cancel
use Rattle.session_table.specs.DueOrder.{first_due}
use Rattle.session_table.specs.Sessions.{state_at}
use Rattle.session_table.specs.declared.key.Key.{Key}
use Rattle.session_table.specs.declared.key.SessionKind.TheVariants as session
use Rattle.station_lanes.specs.LaneCalls.{stepped_lanes, outcome_of}
use Rattle.station_lanes.specs.LaneReaders.{due_lane, is_pending_at}
use Rattle.station_lanes.specs.Lanes.{Lanes}
use Rattle.station_sessions.specs.Receiving.{received, fired_at, Reception}
use Rattle.station_core.specs.Station.{Station, StationStep, quietly, queues, by_session, by_lane}
use Rattle.tp_wire.specs.declared.constants.TheConstants.{ETP_MAX_WINDOW}
use Rattle.tp_wire.specs.declared.wire.Kind.{Kind}
use Rattle.tp_wire.specs.declared.wire.Kind.TheVariants.{Tp, Etp}
use Rattle.responder.specs.Window.{most_of}
use Rattle.session_table.specs.Key.{session_for}
use Rattle.station_sessions.specs.Opening.{key_of, refusal, is_tp_size, is_etp_size, set_for, others_than, rts_received, bam_received}
use Rattle.station_core.specs.Sending.{pumped, cancelled}
use Rattle.station_core.specs.Taking.{packet_kind, answer, request_taken, ack_taken, cm_taken, wire_taken, meaning_taken, looks_at, taken}
use Rattle.station_core.specs.Timers.{lane_fired, fired}
use Rattle.station_core.specs.Closing.{closed, closed_below}
use Rattle.station_core.specs.Overruns.{overrun}
use Rattle.record_law.proofs.Tests.{on_test}
use Rattle.record_law.proofs.outcomes.Lanes.{Tells, tells_none, tells_lane, tells_overrun}
use Rattle.record_law.proofs.outcomes.LaneSteps.{Ends, ends_heard, ends_answered, ends_pumped, ends_fired, ends_cancelled}
use Rattle.record_law.proofs.outcomes.Sessions.{received_untold, fired_untold}

-- what a step of a station leaves of its lanes, and tells
abbrev pub StepTells : Station → StationStep → Type 0
StepTells st step = Tells st.address st.lanes step.station.lanes step.events

module _ (st : Station) where
  -- the lanes are as they were
  pub same : Tells st.address st.lanes st.lanes []
  same = tells_none st.address st.lanes [] (λ s d. refl)

  by_lane_tells : (to : Address) (step : Lane → Lane × LaneStep) → ((l : Lane) → finmap.get st.lanes to.0 ≡ Some l → Ends l (step l)) → StepTells st (by_lane st to step)
  by_lane_tells to step h = tells_lane st.address st.lanes to step h

  -- Taking

  -- a session opens, or it doesn't
  either_tells : (o : Option AbortReason) (x : Reception) (y : AbortReason → Reception) → StepTells st (by_session st x) → ((reason : AbortReason) → StepTells st (by_session st (y reason))) → StepTells st (by_session st (elim o as (λ (_ : Option AbortReason). Reception) [ None ↦ x | Some reason ↦ y reason ]))
  either_tells None x y h k = h
  either_tells (Some reason) x y h k = k reason

  rts_tells : (kind : Kind) (is_size : Bool) (from : Address) (size most pgn : ℕ) (room : Bool) (now : ℕ) → StepTells st (by_session st (rts_received st.address st.ports kind is_size from size most pgn room now st.sessions))
  rts_tells kind is_size from size most pgn room now = either_tells (refusal is_size room (set_for st.ports pgn size) (others_than st.sessions (key_of from (session_for kind)))) _ _ same (λ reason. same)

  bam_tells : (from : Address) (size packets pgn : ℕ) (room : Bool) (now : ℕ) → StepTells st (by_session st (bam_received st.ports from size packets pgn room now st.sessions))
  bam_tells from size packets pgn room now = either_tells (refusal (is_tp_size size packets) room (set_for st.ports pgn size) (others_than st.sessions (key_of from session.Broadcast))) _ _ same (λ reason. same)

  in_lane_tells : (from : Address) (wire : Wire) (now : ℕ) → StepTells st (by_lane st from (λ l. heard l wire now))
  in_lane_tells from wire now = by_lane_tells from (λ l. heard l wire now) (λ l _. ends_heard l wire now)

  in_session_tells : (key : Key) (wire : Wire) (room : Bool) (now : ℕ) → StepTells st (by_session st (received st.ports key wire room now st.sessions))
  in_session_tells key wire room now = tells_none st.address st.lanes _ (λ s d. received_untold s d (state_at st.sessions key) st.ports key wire room now st.sessions)

  cm_tells : (frame : CmFrame) (from : Address) (room : Bool) (now : ℕ) → StepTells st (cm_taken st frame from room now)
  cm_tells (Rts size packets most pgn) from room now = rts_tells Tp (is_tp_size size packets) from size (most_of Tp most) pgn room now
  cm_tells (Cts granted next pgn) from room now = in_lane_tells from (Cm (Cts granted next pgn)) now
  cm_tells (EndOfMsgAck size packets pgn) from room now = in_lane_tells from (Cm (EndOfMsgAck size packets pgn)) now
  cm_tells (Bam size packets pgn) from room now = bam_tells from size packets pgn room now
  cm_tells (Abort reason pgn) from room now = in_lane_tells from (Cm (Abort reason pgn)) now
  cm_tells (EtpRts size pgn) from room now = rts_tells Etp (is_etp_size size) from size ETP_MAX_WINDOW pgn room now
  cm_tells (EtpCts granted next pgn) from room now = in_lane_tells from (Cm (EtpCts granted next pgn)) now
  cm_tells (EtpDpo packets offset pgn) from room now = in_session_tells (key_of from session.Etp) (Cm (EtpDpo packets offset pgn)) room now
  cm_tells (EtpEoma size pgn) from room now = in_lane_tells from (Cm (EtpEoma size pgn)) now
  cm_tells (EtpAbort reason pgn) from room now = in_lane_tells from (Cm (EtpAbort reason pgn)) now

  request_tells : (from to : Address) (pgn : ℕ) → StepTells st (quietly (request_taken st from to pgn))
  request_tells from to pgn = on_test (λ b. StepTells st (quietly (cond b (queues st (answer st from pgn ∷ [])) st))) (to.0 == st.address.0) (λ _. same) (λ _. same)

  ack_tells : (from to address : Address) (pgn : ℕ) → StepTells st (quietly (ack_taken st from to address pgn))
  ack_tells from to address pgn = on_test (λ b. StepTells st (quietly (cond b answers st))) (address.0 == st.address.0 || to.0 == st.address.0)
      (λ _. subst (Tells st.address st.lanes answers.lanes) (nothing (finmap.get st.lanes from.0)) (tells_lane st.address st.lanes from (λ l. (answered l pgn, nothing_to_do)) (λ l _. ends_answered l pgn)))
      (λ _. same)
    where
      answers : Station
      answers = record st { lanes = stepped_lanes st.lanes from.0 (λ l. (answered l pgn, nothing_to_do)) }

      nothing : (o : Option Lane) → outcome_of st.address from (elim o as (λ (_ : Option Lane). LaneStep) [ None ↦ nothing_to_do | Some l ↦ nothing_to_do ]).ended ≡ []
      nothing None = refl
      nothing (Some l) = refl

  wire_tells : (wire : Wire) (from to : Address) (room : Bool) (now : ℕ) → StepTells st (wire_taken st wire from to room now)
  wire_tells (Cm frame) from to room now = cm_tells frame from room now
  wire_tells (Packet k sequence bytes) from to room now = in_session_tells (key_of from (packet_kind k to)) (Packet k sequence bytes) room now
  wire_tells (Request pgn) from to room now = request_tells from to pgn
  wire_tells (Ack control address pgn) from to room now = ack_tells from to address pgn

  meaning_tells : (o : Option (Wire × Address × Address)) (room : Bool) (now : ℕ) → StepTells st (meaning_taken st o room now)
  meaning_tells None room now = same
  meaning_tells (Some m) room now = wire_tells m.0 m.1 m.2 room now

  pub taken_tells : (f : CanFrame) (room : Bool) (now : ℕ) → StepTells st (taken st f room now)
  taken_tells f room now = on_test (λ b. StepTells st (cond b (meaning_taken st (reading f) room now) (quietly st))) (looks_at st f) (λ _. meaning_tells (reading f) room now) (λ _. same)

  -- Other calls

  pub pumped_tells : (to : Address) (now : ℕ) → StepTells st (pumped st to now)
  pumped_tells to now = by_lane_tells to (λ l. lane-pump.pumped l now) (λ l _. ends_pumped l now)

  pub cancelled_tells : (to : Address) (number : ℕ) → is_pending_at st.lanes to.0 number ≡ true → StepTells st (cancelled st to number)
  cancelled_tells to number is = by_lane_tells to (λ l. lane-cancel.cancelled l number) (λ l e. ends_cancelled l number (ap pending (sym e) ∙ is))
    where
      pending : Option Lane → Bool
      pending o = elim o as (λ (_ : Option Lane). Bool) [ None ↦ false | Some l ↦ lane-cancel.numbered l.pending number ]

  lane_fired_tells : (now : ℕ) (o : Option ℕ) → StepTells st (lane_fired st now o)
  lane_fired_tells now None = same
  lane_fired_tells now (Some to) = by_lane_tells (record { 0 = to }) (λ l. lane-fire.fired l now) (λ l _. ends_fired l now)

  pub fired_tells : (now : ℕ) → StepTells st (fired st now)
  fired_tells now = by (first_due st.sessions now)
    where
      by : (o : Option Key) → StepTells st (elim o as (λ (_ : Option Key). StationStep) [ None ↦ lane_fired st now (due_lane st.lanes now) | Some key ↦ by_session st (fired_at st.ports key now st.sessions) ])
      by None = lane_fired_tells now (due_lane st.lanes now)
      by (Some key) = tells_none st.address st.lanes _ (λ s d. fired_untold s d (state_at st.sessions key) st.ports key now st.sessions)

  pub overrun_tells : StepTells st (overrun st)
  overrun_tells = tells_overrun st.address st.lanes 256

-- a port that closes leaves the lanes as they are
closed_below_lanes : (st : Station) (number n : ℕ) → (closed_below st number n).lanes ≡ st.lanes
unfolding closed_below
closed_below_lanes st number zero = refl
closed_below_lanes st number (suc n) = closed_below_lanes st number n

pub closed_tells : (st : Station) (number : ℕ) → StepTells st (quietly (closed st number))
closed_tells st number = subst (λ (lanes : Lanes). Tells st.address st.lanes lanes []) (sym (closed_below_lanes (record st { ports = without_port st.ports number }) number 254)) (same st)
