-- What a station gives: each of its calls gives at open ports alone, of messages to it or to all, and leaves its sessions bound
-- to open ports.
use Rattle.std.proofs.Common.{◌≡◌, ℕ, zero, suc, ◌<◌, ◌==◌, Bool, true, cond, ◌&&◌, ◌||◌, Option, Some, None, refl, sym, ap, subst, arith, ltb-true}
use Rattle.std.proofs.lemmas.Bool.{and_parts}
use Rattle.std.proofs.lemmas.Option.{same_Some, none-some}
use Rattle.bus_frame.specs.Frames.{CanFrame}
use Rattle.pgn_ids.specs.Pgn.{clean}
use Rattle.pgn_ids.specs.Identifier.{meaning_of}
use Rattle.pgn_ids.specs.declared.address.Address.{Address}
use Rattle.tp_wire.specs.Reading.{reading, between, body_of}
use Rattle.tp_wire.specs.Rows.{goes_to, comes_from}
use Rattle.tp_wire.specs.Reason.{reason_byte}
use Rattle.tp_wire.specs.declared.constants.TheConstants.{ETP_MAX_WINDOW}
use Rattle.tp_wire.specs.declared.wire.Kind.{Kind}
use Rattle.tp_wire.specs.declared.wire.Kind.TheVariants.{Tp, Etp}
use Rattle.responder.specs.Unfinished.{Unfinished, begun}
use Rattle.responder.specs.Window.{most_of}
use Rattle.responder.specs.Asking.{asking, asked}
use Rattle.responder.specs.Room.{first_join}
use Rattle.session_table.specs.Key.{session_for}
use Rattle.tp_wire.specs.declared.wire.CmFrame.{CmFrame}
use Rattle.tp_wire.specs.declared.wire.CmFrame.TheVariants.{Rts, Cts, EndOfMsgAck, Bam, Abort, EtpRts, EtpCts, EtpDpo, EtpEoma, EtpAbort}
use Rattle.tp_wire.specs.declared.wire.Wire.{Wire}
use Rattle.tp_wire.specs.declared.wire.Wire.TheVariants.{Cm, Packet, Request, Ack}
use Rattle.responder.specs.Answers.{abort_frame}
use Rattle.bam_session.specs.States as bam
use Rattle.port_table.specs.Ports.{Ports}
use Rattle.session_table.specs.DueOrder.{first_due}
use Rattle.session_table.specs.declared.key.SessionKind.{SessionKind}
use Rattle.session_table.specs.declared.key.SessionKind.TheVariants as session
use Rattle.session_table.specs.declared.incoming.Incoming.{Incoming}
use Rattle.session_table.specs.declared.incoming.Incoming.TheVariants as incoming
use Rattle.lane_core.specs.Lane.{Lane}
use Rattle.lane_core.specs.Hear.{heard}
use Rattle.lane_core.specs.Fire.{fired as lane_fires}
use Rattle.lane_core.specs.Overrun.{overrun as lane_overrun}
use Rattle.lane_core.specs.declared.step.Ended.{Ended}
use Rattle.lane_core.specs.Step.{LaneStep}
use Rattle.station_lanes.specs.Lanes.{Lanes}
use Rattle.station_lanes.specs.LaneCalls.{step_at, outcome_of}
use Rattle.station_lanes.specs.LaneReaders.{overrun_lanes, overrun_events, due_lane}
use Rattle.station_sessions.specs.Receiving.{Reception, flow_at, received, fired_at}
use Rattle.station_core.specs.Station.{Station, StationStep, quietly, by_session, by_lane}
use Rattle.station_sessions.specs.Opening.{key_of, refusal, is_tp_size, is_etp_size, set_for, others_than, whole_join, peer_of, rts_received, bam_received}
use Rattle.station_sessions.specs.Receiving.{goes_on_at, ended_at}
use Rattle.station_core.specs.Overruns.{overrun}
use Rattle.station_core.specs.Taking.{packet_kind, in_session, abort_taken, cm_taken, request_taken, ack_taken, wire_taken, looks_at, meaning_taken, taken}
use Rattle.station_core.specs.Timers.{lane_fired, fired}
use Rattle.record_law.proofs.Lists.{Each, each_append}
use Rattle.record_law.proofs.Maps.{of_each_none, of_each_put, of_each_dropped}
use Rattle.record_law.proofs.Tests.{on_test, either, by_option}
use Rattle.record_law.proofs.ports.Ports.{IsAllowed, found_receive}
use Rattle.record_law.proofs.ports.Receptions.{IsBound, AreBound, Settles, settles_received, settles_fired, bound_aborted}
use Rattle.record_law.proofs.ports.Sessions.{IsOf, asking_is}

-- what is promised of a step that leaves the ports as they are
pub record Acts (st : Station) (step : StationStep) : Type 0 where
  pub address : step.station.address ≡ st.address
  pub ports : step.station.ports ≡ st.ports
  pub sessions : AreBound st.ports step.station.sessions
  pub events : Each (IsAllowed st.ports) step.events

-- outcomes give nothing
pub outcome_allowed : (ports : Ports) (from to : Address) (o : Option Ended) → Each (IsAllowed ports) (outcome_of from to o)
outcome_allowed ports from to None = tt
outcome_allowed ports from to (Some e) = (tt, tt)

overrun_allowed : (ports : Ports) (from : Address) (lanes : Lanes) (n : ℕ) → Each (IsAllowed ports) (overrun_events from lanes n)
unfolding overrun_events
overrun_allowed ports from lanes zero = tt
overrun_allowed ports from lanes (suc n) = each_append (IsAllowed ports) (overrun_events from lanes n) _ (overrun_allowed ports from lanes n) (outcome_allowed ports from (record { 0 = n }) (step_at (overrun_lanes lanes n) n lane_overrun).ended)

-- a frame that opens a session comes from one node
abbrev Meaning : Type 0
Meaning = Wire × Address × Address

between_comes : (from to : Address) (o : Option Wire) (m : Meaning) → between from to o ≡ Some m → comes_from m.0 m.1.0 ≡ true
between_comes from to None m e = absurd (none-some m e)
between_comes from to (Some w) m e = on_test (λ b. (goes_to w to.0 && comes_from w from.0) ≡ b → cond {A = Option Meaning} b (Some (w, from, to)) None ≡ Some m → comes_from m.0 m.1.0 ≡ true) (goes_to w to.0 && comes_from w from.0)
    (λ t p q. subst (λ (x : Meaning). comes_from x.0 x.1.0 ≡ true) (same_Some (w, from, to) m q) (and_parts (goes_to w to.0) (comes_from w from.0) p).1)
    (λ t p q. absurd (none-some m q)) refl e

reading_comes : (f : CanFrame) (m : Meaning) → reading f ≡ Some m → comes_from m.0 m.1.0 ≡ true
unfolding reading
reading_comes f m e = between_comes (meaning_of f.id).from (meaning_of f.id).to (body_of (meaning_of f.id).pgn f.bytes) m e

module _ (st : Station) (own : st.ports.station ≡ st.address) (each : AreBound st.ports st.sessions) where
  own_address : st.address.0 ≡ st.ports.station.0
  own_address = sym (ap (λ (a : Address). a.0) own)

  acts_none : Acts st (quietly st)
  acts_none = record { address = refl; ports = refl; sessions = each; events = tt }

  acts_session : (r : Reception) → Settles st.ports r → Acts st (by_session st r)
  acts_session r h = record { address = refl; ports = refl; sessions = h.sessions; events = h.events }

  pub acts_lane : (to : Address) (step : Lane → Lane × LaneStep) → Acts st (by_lane st to step)
  acts_lane to step = record { address = refl; ports = refl; sessions = each; events = outcome_allowed st.ports st.address to (step_at st.lanes to.0 step).ended }

  -- Frames

  module _ (from : Address) (source : from.0 < 254) where
    acts_opened : (kind : SessionKind) (pgn size : ℕ) (state : Incoming) (frame : Option CanFrame) → IsOf st.ports.station.0 pgn size state → Acts st (by_session st (goes_on_at (key_of from kind) (set_for st.ports pgn size) st.sessions state frame))
    acts_opened kind pgn size state frame h = record {
      address = refl;
      ports = refl;
      sessions = of_each_put (IsBound st.ports) st.sessions (key_of from kind) (set_for st.ports pgn size, state) (record { source = source; pgn = pgn; size = size; state = h; set = found_receive st.ports (clean pgn) size }) each;
      events = tt;
    }

    acts_not_opened : (kind : SessionKind) (frame : Option CanFrame) → Acts st (by_session st (ended_at (key_of from kind) st.sessions frame))
    acts_not_opened kind frame = record { address = refl; ports = refl; sessions = of_each_dropped (IsBound st.ports) st.sessions (key_of from kind) each; events = tt }

    abbrev Opens : Reception → Type 0
    Opens r = Acts st (by_session st r)

    acts_rts : (kind : Kind) (is_size : Bool) (size most pgn : ℕ) (room : Bool) (now : ℕ) → Opens (rts_received st.address st.ports kind is_size from size most pgn room now st.sessions)
    acts_rts kind is_size size most pgn room now =
        let m : Unfinished = begun kind (peer_of st.address from pgn) most (first_join kind size (flow_at st.ports (set_for st.ports pgn size))) in
        by_option Opens (refusal is_size room (set_for st.ports pgn size) (others_than st.sessions (key_of from (session_for kind)))) _ _
        (acts_opened (session_for kind) pgn size (incoming.Connection (asking m (flow_at st.ports (set_for st.ports pgn size)) now)) (Some (asked m (flow_at st.ports (set_for st.ports pgn size))))
        (asking_is st.ports.station.0 pgn size m (flow_at st.ports (set_for st.ports pgn size)) now (own_address, (refl, (refl, omega arith)))))
        (λ reason. acts_not_opened (session_for kind) (Some (abort_frame kind (peer_of st.address from pgn) (reason_byte reason))))

    acts_bam : (size packets pgn : ℕ) (room : Bool) (now : ℕ) → Opens (bam_received st.ports from size packets pgn room now st.sessions)
    acts_bam size packets pgn room now = by_option Opens (refusal (is_tp_size size packets) room (set_for st.ports pgn size) (others_than st.sessions (key_of from session.Broadcast))) _ _
        (acts_opened session.Broadcast pgn size (incoming.Broadcast (bam.announced from.0 pgn (whole_join size) now)) None (refl, (refl, omega arith)))
        (λ reason. acts_not_opened session.Broadcast None)

    acts_abort : (kind : SessionKind) (pgn : ℕ) (wire : Wire) (now : ℕ) → Acts st (abort_taken st from kind pgn wire now)
    acts_abort kind pgn wire now = record {
      address = refl;
      ports = refl;
      sessions = bound_aborted st.ports (key_of from kind) st.sessions each pgn;
      events = outcome_allowed st.ports st.address from (step_at st.lanes from.0 (λ lane. heard lane wire now)).ended;
    }

    acts_in_session : (kind : SessionKind) (wire : Wire) (room : Bool) (now : ℕ) → Acts st (in_session st (key_of from kind) wire room now)
    acts_in_session kind wire room now = acts_session (received st.ports (key_of from kind) wire room now st.sessions) (settles_received st.ports (key_of from kind) st.sessions each wire room now)

    acts_cm : (frame : CmFrame) (room : Bool) (now : ℕ) → Acts st (cm_taken st frame from room now)
    acts_cm (Rts size packets most pgn) room now = acts_rts Tp (is_tp_size size packets) size (most_of Tp most) pgn room now
    acts_cm (Cts granted next pgn) room now = acts_lane from (λ lane. heard lane (Cm (Cts granted next pgn)) now)
    acts_cm (EndOfMsgAck size packets pgn) room now = acts_lane from (λ lane. heard lane (Cm (EndOfMsgAck size packets pgn)) now)
    acts_cm (Bam size packets pgn) room now = acts_bam size packets pgn room now
    acts_cm (Abort reason pgn) room now = acts_abort session.Tp pgn (Cm (Abort reason pgn)) now
    acts_cm (EtpRts size pgn) room now = acts_rts Etp (is_etp_size size) size ETP_MAX_WINDOW pgn room now
    acts_cm (EtpCts granted next pgn) room now = acts_lane from (λ lane. heard lane (Cm (EtpCts granted next pgn)) now)
    acts_cm (EtpDpo packets offset pgn) room now = acts_in_session session.Etp (Cm (EtpDpo packets offset pgn)) room now
    acts_cm (EtpEoma size pgn) room now = acts_lane from (λ lane. heard lane (Cm (EtpEoma size pgn)) now)
    acts_cm (EtpAbort reason pgn) room now = acts_abort session.Etp pgn (Cm (EtpAbort reason pgn)) now

  acts_request : (from to : Address) (pgn : ℕ) → Acts st (quietly (request_taken st from to pgn))
  acts_request from to pgn = either (λ x. Acts st (quietly x)) (to.0 == st.address.0) _ _ (record { address = refl; ports = refl; sessions = each; events = tt }) acts_none

  acts_ack : (from to address : Address) (pgn : ℕ) → Acts st (quietly (ack_taken st from to address pgn))
  acts_ack from to address pgn = either (λ x. Acts st (quietly x)) (address.0 == st.address.0 || to.0 == st.address.0) _ _ (record { address = refl; ports = refl; sessions = each; events = tt }) acts_none

  acts_wire : (wire : Wire) (from to : Address) (room : Bool) (now : ℕ) → comes_from wire from.0 ≡ true → Acts st (wire_taken st wire from to room now)
  acts_wire (Cm frame) from to room now c = acts_cm from (ltb-true from.0 254 c) frame room now
  acts_wire (Packet kind k bytes) from to room now c = acts_in_session from (ltb-true from.0 254 c) (packet_kind kind to) (Packet kind k bytes) room now
  acts_wire (Request pgn) from to room now c = acts_request from to pgn
  acts_wire (Ack control address pgn) from to room now c = acts_ack from to address pgn

  pub acts_taken : (f : CanFrame) (room : Bool) (now : ℕ) → Acts st (taken st f room now)
  acts_taken f room now = either (Acts st) (looks_at st f) _ _ (by (reading f) refl) acts_none
    where
      by : (o : Option Meaning) → reading f ≡ o → Acts st (meaning_taken st o room now)
      by None e = acts_none
      by (Some m) e = acts_wire m.0 m.1 m.2 room now (reading_comes f m e)

  -- Timers and overruns

  acts_lane_fired : (now : ℕ) (o : Option ℕ) → Acts st (lane_fired st now o)
  acts_lane_fired now None = acts_none
  acts_lane_fired now (Some to) = acts_lane (record { 0 = to }) (λ l. lane_fires l now)

  pub acts_fired : (now : ℕ) → Acts st (fired st now)
  acts_fired now = by_option (Acts st) (first_due st.sessions now) _ _ (acts_lane_fired now (due_lane st.lanes now)) (λ key. acts_session (fired_at st.ports key now st.sessions) (settles_fired st.ports key st.sessions each now))

  pub acts_overrun : Acts st (overrun st)
  acts_overrun = record { address = refl; ports = refl; sessions = of_each_none (IsBound st.ports); events = overrun_allowed st.ports st.address st.lanes 256 }
