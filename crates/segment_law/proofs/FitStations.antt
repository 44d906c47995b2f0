-- The calls of a station keep what holds of every station, and its address.
use Rattle.std.proofs.Common.{◌≡◌, ℕ, zero, suc, ◌+◌, ◌==◌, Bool, true, false, cond, ◌||◌, List, [], ◌∷◌, Option, Some, None, refl, ◌∙◌}
use Rattle.bus_frame.specs.Frames.{CanFrame}
use Rattle.pgn_ids.specs.Address.{is_one}
use Rattle.pgn_ids.specs.declared.address.Address.{Address}
use Rattle.tp_wire.specs.Reading.{reading}
use Rattle.tp_wire.specs.declared.wire.CmFrame.{CmFrame}
use Rattle.tp_wire.specs.declared.wire.CmFrame.TheVariants.{Rts, Cts, EndOfMsgAck, Bam, Abort, EtpRts, EtpCts, EtpDpo, EtpEoma, EtpAbort}
use Rattle.tp_wire.specs.declared.wire.Wire.{Wire}
use Rattle.tp_wire.specs.declared.wire.Wire.TheVariants.{Cm, Packet, Request, Ack}
use Rattle.port_table.specs.Ports.{Ports, without_port}
use Rattle.lane_core.specs.Lane.{Lane}
use Rattle.lane_core.specs.Hear.{heard}
use Rattle.lane_core.specs.Answer.{answered}
use Rattle.lane_core.specs.Step.{nothing_to_do, LaneStep}
use Rattle.lane_core.specs.Pump as lane-pump
use Rattle.lane_core.specs.Fire as lane-fire
use Rattle.lane_core.specs.Cancel as lane-cancel
use Rattle.station_core.specs.Sessions.{first_due, Key, aborted_at, fired_at, key_of}
use Rattle.station_core.specs.SessionKinds as session
use Rattle.station_core.specs.Lanes.{Lanes, stepped_lanes, due_lane}
use Rattle.station_core.specs.Station.{Station, StationStep, new_station, quietly, queues, by_session, by_lane}
use Rattle.station_core.specs.Sending.{lane_of, sent, pumped, cancelled}
use Rattle.station_core.specs.Taking.{answer, request_taken, ack_taken, cm_taken, wire_taken, meaning_taken, looks_at, taken}
use Rattle.station_core.specs.Timers.{lane_fired, fired}
use Rattle.station_core.specs.Closing.{closed, closed_below}
use Rattle.station_core.specs.Overruns.{overrun}
use Rattle.segment_law.specs.Reached.{IsFitMessage, IsFitLane, AreFitLanes, IsFitStation}
use Rattle.segment_law.proofs.FitLanes.{fit_heard, fit_answered, fit_overrun_all, fit_pumped, fit_fired, fit_cancelled, fit_pushed, fit_insert, fit_stepped, fit_lane_to, fit_none}

-- a station that fits has this address
pub record Stays (a : Address) (st : Station) : Type 0 where
  pub address : st.address ≡ a
  pub fit : IsFitStation st

module _ (a : Address) where
  -- what only queues frames and changes sessions
  same : (st : Station) (queue : List CanFrame) (sessions : _) → Stays a st → Stays a (record st { queue = queue; sessions = sessions })
  same st queue sessions h = record { address = h.address; fit = record { own = h.fit.own; ports = h.fit.ports; lanes = h.fit.lanes } }

  pub stays_queued : (st : Station) (queue : List CanFrame) → Stays a st → Stays a (record st { queue = queue })
  stays_queued st queue h = same st queue st.sessions h

  pub stays_ports : (st : Station) (ports : Ports) → ports.station ≡ st.ports.station → Stays a st → Stays a (record st { ports = ports })
  stays_ports st ports e h = record { address = h.address; fit = record { own = h.fit.own; ports = e ∙ h.fit.ports; lanes = h.fit.lanes } }

  stays_lanes : (st : Station) (queue : List CanFrame) (lanes : Lanes) → Stays a st → AreFitLanes st.address lanes → Stays a (record st { queue = queue; lanes = lanes })
  stays_lanes st queue lanes h fit = record { address = h.address; fit = record { own = h.fit.own; ports = h.fit.ports; lanes = fit } }

  by_lane_stays : (st : Station) (to : Address) (step : Lane → Lane × LaneStep) → Stays a st → ((l : Lane) → IsFitLane st.address to.0 l → IsFitLane st.address to.0 (step l).0) → Stays a (by_lane st to step).station
  by_lane_stays st to step h keeps = stays_lanes st _ _ h (fit_stepped st.address st.lanes to.0 step h.fit.lanes keeps)

  -- Taking

  in_lane_stays : (st : Station) (from : Address) (wire : Wire) (now : ℕ) → Stays a st → Stays a (by_lane st from (λ l. heard l wire now)).station
  in_lane_stays st from wire now h = by_lane_stays st from (λ l. heard l wire now) h (λ l. fit_heard st.address from.0 l wire now)

  cm_stays : (st : Station) (frame : CmFrame) (from : Address) (room : Bool) (now : ℕ) → Stays a st → Stays a (cm_taken st frame from room now).station
  cm_stays st (Rts size packets most pgn) from room now h = same st _ _ h
  cm_stays st (Cts granted next pgn) from room now h = in_lane_stays st from (Cm (Cts granted next pgn)) now h
  cm_stays st (EndOfMsgAck size packets pgn) from room now h = in_lane_stays st from (Cm (EndOfMsgAck size packets pgn)) now h
  cm_stays st (Bam size packets pgn) from room now h = same st _ _ h
  cm_stays st (Abort reason pgn) from room now h = in_lane_stays (record st { sessions = aborted_at (key_of from session.Tp) pgn st.sessions }) from (Cm (Abort reason pgn)) now (same st st.queue _ h)
  cm_stays st (EtpRts size pgn) from room now h = same st _ _ h
  cm_stays st (EtpCts granted next pgn) from room now h = in_lane_stays st from (Cm (EtpCts granted next pgn)) now h
  cm_stays st (EtpDpo packets offset pgn) from room now h = same st _ _ h
  cm_stays st (EtpEoma size pgn) from room now h = in_lane_stays st from (Cm (EtpEoma size pgn)) now h
  cm_stays st (EtpAbort reason pgn) from room now h = in_lane_stays (record st { sessions = aborted_at (key_of from session.Etp) pgn st.sessions }) from (Cm (EtpAbort reason pgn)) now (same st st.queue _ h)

  request_stays : (st : Station) (from to : Address) (pgn : ℕ) → Stays a st → Stays a (request_taken st from to pgn)
  request_stays st from to pgn h = elim (to.0 == st.address.0) as (λ b. Stays a (cond b (queues st (answer st from pgn ∷ [])) st)) [ true ↦ stays_queued st _ h | false ↦ h ]

  ack_stays : (st : Station) (from to address : Address) (pgn : ℕ) → Stays a st → Stays a (ack_taken st from to address pgn)
  ack_stays st from to address pgn h = elim (address.0 == st.address.0 || to.0 == st.address.0) as (λ b. Stays a (cond b (record st { lanes = stepped_lanes st.lanes from.0 (λ l. (answered l pgn, nothing_to_do)) }) st)) [
    | true ↦ stays_lanes st st.queue _ h (fit_stepped st.address st.lanes from.0 (λ l. (answered l pgn, nothing_to_do)) h.fit.lanes (λ l. fit_answered st.address from.0 l pgn))
    | false ↦ h
  ]

  wire_stays : (st : Station) (wire : Wire) (from to : Address) (room : Bool) (now : ℕ) → Stays a st → Stays a (wire_taken st wire from to room now).station
  wire_stays st (Cm frame) from to room now h = cm_stays st frame from room now h
  wire_stays st (Packet k sequence bytes) from to room now h = same st _ _ h
  wire_stays st (Request pgn) from to room now h = request_stays st from to pgn h
  wire_stays st (Ack control address pgn) from to room now h = ack_stays st from to address pgn h

  meaning_stays : (st : Station) (o : Option (Wire × Address × Address)) (room : Bool) (now : ℕ) → Stays a st → Stays a (meaning_taken st o room now).station
  meaning_stays st None room now h = h
  meaning_stays st (Some m) room now h = wire_stays st m.0 m.1 m.2 room now h

  pub taken_stays : (st : Station) (f : CanFrame) (room : Bool) (now : ℕ) → Stays a st → Stays a (taken st f room now).station
  taken_stays st f room now h = elim (looks_at st f) as (λ b. Stays a (cond b (meaning_taken st (reading f) room now) (quietly st)).station) [ true ↦ meaning_stays st (reading f) room now h | false ↦ h ]

  -- Other calls

  pub sent_stays : (st : Station) (to : Address) (pgn : ℕ) (bytes : List ℕ) → Stays a st → ((number : ℕ) → IsFitMessage to.0 (record { number = number; pgn = pgn; bytes = bytes })) → Stays a (sent st to pgn bytes)
  sent_stays st to pgn bytes h m = stays_lanes st st.queue _ h (fit_insert st.address st.lanes to.0 _ h.fit.lanes (fit_pushed st.address to.0 (lane_of st to) pgn bytes (fit_lane_to st.address st.lanes to.0 h.fit.lanes) (m ((lane_of st to).sent + 1))))

  pub pumped_stays : (st : Station) (to : Address) (now : ℕ) → Stays a st → Stays a (pumped st to now).station
  pumped_stays st to now h = by_lane_stays st to (λ l. lane-pump.pumped l now) h (λ l. fit_pumped st.address to.0 l now)

  pub cancelled_stays : (st : Station) (to : Address) (number : ℕ) → Stays a st → Stays a (cancelled st to number).station
  cancelled_stays st to number h = by_lane_stays st to (λ l. lane-cancel.cancelled l number) h (λ l. fit_cancelled st.address to.0 l number)

  lane_fired_stays : (st : Station) (now : ℕ) (o : Option ℕ) → Stays a st → Stays a (lane_fired st now o).station
  lane_fired_stays st now None h = h
  lane_fired_stays st now (Some to) h = by_lane_stays st (record { 0 = to }) (λ l. lane-fire.fired l now) h (λ l. fit_fired st.address to l now)

  pub fired_stays : (st : Station) (now : ℕ) → Stays a st → Stays a (fired st now).station
  fired_stays st now h = by (first_due st.sessions now)
    where
      by : (o : Option Key) → Stays a (elim o as (λ (_ : Option Key). StationStep) [ None ↦ lane_fired st now (due_lane st.lanes now) | Some key ↦ by_session st (fired_at st.ports key now st.sessions) ]).station
      by None = lane_fired_stays st now (due_lane st.lanes now) h
      by (Some key) = same st _ _ h

  pub overrun_stays : (st : Station) → Stays a st → Stays a (overrun st).station
  overrun_stays st h = record { address = h.address; fit = record { own = h.fit.own; ports = h.fit.ports; lanes = fit_overrun_all st.address st.lanes 256 h.fit.lanes } }

  closed_below_stays : (st : Station) (number n : ℕ) → Stays a st → Stays a (closed_below st number n)
  unfolding closed_below
  closed_below_stays st number zero h = h
  closed_below_stays st number (suc n) h =
      let k : Stays a (closed_below st number n) = closed_below_stays st number n h in
      record { address = k.address; fit = record { own = k.fit.own; ports = k.fit.ports; lanes = k.fit.lanes } }

  pub closed_stays : (st : Station) (number : ℕ) → Stays a st → Stays a (closed st number)
  closed_stays st number h = closed_below_stays _ number 254 (stays_ports st (without_port st.ports number) refl h)

  pub new_stays : is_one a.0 ≡ true → Stays a (new_station a)
  new_stays own = record { address = refl; fit = record { own = own; ports = refl; lanes = fit_none a } }
