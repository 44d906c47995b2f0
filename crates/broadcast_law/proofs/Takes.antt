-- A station takes a frame: what it does with any frame, and that one that carries nothing of s to all leaves the broadcasts of s.
use Rattle.std.proofs.Common.{◌≡◌, ℕ, ◌<◌, ◌==◌, Bool, true, cond, not, ◌||◌, List, [], ◌∷◌, Option, Some, None, refl, sym, ap, ◌∙◌, subst, arith, append-nil, eq-eqb, ltb-true}
use Rattle.std.specs.Prelude.{option_to_list}
use Rattle.std.proofs.lemmas.Bool.{and_parts}
use Rattle.std.specs.FinMap as finmap
use Rattle.bus_frame.specs.Frames.{CanFrame}
use Rattle.pgn_ids.specs.Identifier.{meaning_of}
use Rattle.pgn_ids.specs.declared.address.Address.{Address}
use Rattle.tp_wire.specs.Reading.{reading}
use Rattle.tp_wire.specs.Rows.{comes_from}
use Rattle.tp_wire.specs.Reason.{reason_byte}
use Rattle.tp_wire.specs.declared.constants.TheConstants.{ETP_MAX_WINDOW}
use Rattle.tp_wire.specs.declared.wire.Kind.{Kind}
use Rattle.tp_wire.specs.declared.wire.Kind.TheVariants.{Tp, Etp}
use Rattle.responder.specs.Unfinished.{Unfinished, begun}
use Rattle.responder.specs.Window.{most_of}
use Rattle.responder.specs.Asking.{asking, asked}
use Rattle.responder.specs.Room.{first_join}
use Rattle.session_table.specs.Key.{session_for}
use Rattle.tp_wire.specs.declared.wire.CmFrame.{CmFrame}
use Rattle.tp_wire.specs.declared.wire.CmFrame.TheVariants.{Rts, Cts, EndOfMsgAck, Bam, Abort, EtpRts, EtpCts, EtpDpo, EtpEoma, EtpAbort}
use Rattle.tp_wire.specs.declared.wire.Wire.{Wire}
use Rattle.tp_wire.specs.declared.wire.Wire.TheVariants.{Cm, Packet, Request, Ack}
use Rattle.responder.specs.Answers.{abort_frame}
use Rattle.bam_session.specs.States as bam
use Rattle.session_table.specs.declared.key.Key.{Key}
use Rattle.session_table.specs.declared.key.SessionKind.{SessionKind}
use Rattle.session_table.specs.declared.key.SessionKind.TheVariants as session
use Rattle.session_table.specs.declared.incoming.Incoming.{Incoming}
use Rattle.session_table.specs.declared.incoming.Incoming.TheVariants as incoming
use Rattle.lane_core.specs.Lane.{Lane}
use Rattle.lane_core.specs.Step.{nothing_to_do, LaneStep}
use Rattle.lane_core.specs.Hear.{heard}
use Rattle.lane_core.specs.Answer.{answered}
use Rattle.lane_core.specs.declared.step.Ended.{Ended}
use Rattle.station_lanes.specs.LaneCalls.{outcome_of}
use Rattle.message_events.specs.declared.event.Event.{Event}
use Rattle.station_sessions.specs.Receiving.{received, flow_at, aborted_at}
use Rattle.station_core.specs.Station.{Station, StationStep, quietly, queues, by_session}
use Rattle.station_sessions.specs.Opening.{key_of, refusal, is_tp_size, is_etp_size, set_for, others_than, whole_join, peer_of, rts_received, bam_received, opening_received}
use Rattle.record_law.proofs.Openings.{opening_untold}
use Rattle.station_sessions.specs.Receiving.{goes_on_at, ended_at}
use Rattle.station_core.specs.Taking.{packet_kind, in_session, in_lane, abort_taken, cm_taken, answer, request_taken, ack_taken, wire_taken, looks_at, meaning_taken, taken}
use Rattle.record_law.proofs.Lists.{Each, each_append}
use Rattle.record_law.proofs.Maps.{of_each_put, of_each_dropped}
use Rattle.record_law.proofs.Readings.{GivesBack}
use Rattle.responder.proofs.Rows.{asking_stays}
use Rattle.record_law.proofs.Tests.{on_test, either, by_option}
use Rattle.broadcast_law.proofs.Carried.{IsQuiet, quiet_ack, Meaning, IsRead, reading_tells}
use Rattle.broadcast_law.proofs.Ports.{set_distinct, IsOfPort, IsOneGiving, station_told, one_of_none, none_told}
use Rattle.broadcast_law.proofs.LaneSteps.{fits_heard, fits_answered}
use Rattle.broadcast_law.proofs.SessionSteps.{FitsPeer, SaidBack, said_peer, asking_fits}
use Rattle.broadcast_law.proofs.Receptions.{IsSessionOf, IsStateOf, settles_received, each_aborted}
use Rattle.broadcast_law.proofs.Stations.{IsOwn, Does, does_none, does_then, does_sessions, does_reception, does_lane, lanes_stepped, lanes_else, outcome_ports, outcome_untold}

-- a frame that a station looks at is of another one
pub other_node : (a : Address) (st : Station) (f : CanFrame) → IsOwn a st → looks_at st f ≡ true → (meaning_of f.id).from.0 ≡ a.0 → ⊥
other_node a st f h l e =
    let p : not ((meaning_of f.id).from.0 == st.address.0) ≡ true = (and_parts (not ((meaning_of f.id).from.0 == st.address.0)) ((meaning_of f.id).to.0 == st.address.0 || (meaning_of f.id).to.0 == 255) l).0 in
    let q : ((meaning_of f.id).from.0 == st.address.0) ≡ true = eq-eqb (meaning_of f.id).from.0 st.address.0 (e ∙ sym (ap (λ (x : Address). x.0) h.address)) in
    let r : not true ≡ true = ap not (sym q) ∙ p in absurd (cc)

module _ (gives : GivesBack) (a : Address) (small : a.0 < 254) where
  -- a session opens, or it doesn't
  module _ (st : Station) (h : IsOwn a st) (key : Key) (of_key : key.source.0 < 254) (foreign : key.source.0 ≡ a.0 → ⊥) where
    does_opened : (pgn size : ℕ) (state : Incoming) (frame : Option CanFrame) → IsStateOf a.0 key state → SaidBack a.0 key.source.0 frame → Does a st (by_session st (goes_on_at key (set_for st.ports pgn size) st.sessions state frame)).station
    does_opened pgn size state frame k e = does_sessions gives a small st (finmap.insert st.sessions key (Some (set_for st.ports pgn size, state))) (option_to_list frame) key.source.0 h
        (of_each_put (IsSessionOf a.0) st.sessions key (set_for st.ports pgn size, state) (record { small = of_key; foreign = foreign; distinct = set_distinct a st.ports h.ports _ size; state = k }) h.sessions) of_key e

    does_not_opened : (frame : Option CanFrame) → SaidBack a.0 key.source.0 frame → Does a st (by_session st (ended_at key st.sessions frame)).station
    does_not_opened frame e = does_sessions gives a small st (finmap.remove st.sessions key) (option_to_list frame) key.source.0 h (of_each_dropped (IsSessionOf a.0) st.sessions key h.sessions) of_key e

  module _ (st : Station) (h : IsOwn a st) (from : Address) (foreign : from.0 ≡ a.0 → ⊥) (one : from.0 < 254) where
    peer_fits : (pgn : ℕ) → FitsPeer a.0 from.0 (peer_of st.address from pgn)
    peer_fits pgn = (ap (λ (x : Address). x.0) h.address, refl)

    does_rts : (kind : Kind) (is_size : Bool) (size most pgn : ℕ) (room : Bool) (now : ℕ) → Does a st (by_session st (rts_received st.address st.ports kind is_size from size most pgn room now st.sessions)).station
    does_rts kind is_size size most pgn room now =
        let m : Unfinished = begun kind (peer_of st.address from pgn) most (first_join kind size (flow_at st.ports (set_for st.ports pgn size))) in
        let q = asking_fits a.0 from.0 m (flow_at st.ports (set_for st.ports pgn size)) now (peer_fits pgn) in
        by_option (λ r. Does a st (by_session st r).station) (refusal is_size room (set_for st.ports pgn size) (others_than st.sessions (key_of from (session_for kind)))) _ _
        (does_opened st h (key_of from (session_for kind)) one foreign pgn size (incoming.Connection (asking m (flow_at st.ports (set_for st.ports pgn size)) now)) (Some (asked m (flow_at st.ports (set_for st.ports pgn size)))) (q.0, ap session_for (sym (asking_stays m (flow_at st.ports (set_for st.ports pgn size)) now))) q.1)
        (λ reason. does_not_opened st h (key_of from (session_for kind)) one foreign (Some (abort_frame kind (peer_of st.address from pgn) (reason_byte reason))) (said_peer a.0 from.0 (peer_of st.address from pgn) _ (peer_fits pgn)))

    does_bam : (size packets pgn : ℕ) (room : Bool) (now : ℕ) → Does a st (by_session st (bam_received st.ports from size packets pgn room now st.sessions)).station
    does_bam size packets pgn room now =
        by_option (λ r. Does a st (by_session st r).station) (refusal (is_tp_size size packets) room (set_for st.ports pgn size) (others_than st.sessions (key_of from session.Broadcast))) _ _
        (does_opened st h (key_of from session.Broadcast) one foreign pgn size (incoming.Broadcast (bam.announced from.0 pgn (whole_join size) now)) None (refl, refl) tt)
        (λ reason. does_not_opened st h (key_of from session.Broadcast) one foreign None tt)

    does_in_lane : (x : Station) → IsOwn a x → (wire : Wire) (now : ℕ) → Does a x (in_lane x from wire now).station
    does_in_lane x k wire now = does_lane gives a small x from (λ lane. heard lane wire now) k (omega arith) (λ lane. fits_heard a.0 from.0 lane wire now)

    does_abort : (kind : SessionKind) (pgn : ℕ) (wire : Wire) (now : ℕ) → Does a st (abort_taken st from kind pgn wire now).station
    does_abort kind pgn wire now =
        let x : Station = record st { sessions = aborted_at (key_of from kind) pgn st.sessions } in
        let first : Does a st x = subst (λ q. Does a st (record st { queue = q; sessions = aborted_at (key_of from kind) pgn st.sessions })) (append-nil st.queue)
        (does_sessions gives a small st (aborted_at (key_of from kind) pgn st.sessions) [] from.0 h (each_aborted a st.ports h.ports.station small (key_of from kind) st.sessions h.sessions pgn) one tt) in
        does_then a st x (in_lane x from wire now).station first (does_in_lane x first.own wire now)

    does_in_session : (kind : SessionKind) (wire : Wire) (room : Bool) (now : ℕ) → Does a st (in_session st (key_of from kind) wire room now).station
    does_in_session kind wire room now = does_reception gives a small st (key_of from kind) (received st.ports (key_of from kind) wire room now st.sessions) h (settles_received a st.ports h.ports.station small (key_of from kind) st.sessions h.sessions wire room now)

    does_cm : (frame : CmFrame) (room : Bool) (now : ℕ) → Does a st (cm_taken st frame from room now).station
    does_cm (Rts size packets most pgn) room now = does_rts Tp (is_tp_size size packets) size (most_of Tp most) pgn room now
    does_cm (Cts granted next pgn) room now = does_in_lane st h (Cm (Cts granted next pgn)) now
    does_cm (EndOfMsgAck size packets pgn) room now = does_in_lane st h (Cm (EndOfMsgAck size packets pgn)) now
    does_cm (Bam size packets pgn) room now = does_bam size packets pgn room now
    does_cm (Abort reason pgn) room now = does_abort session.Tp pgn (Cm (Abort reason pgn)) now
    does_cm (EtpRts size pgn) room now = does_rts Etp (is_etp_size size) size ETP_MAX_WINDOW pgn room now
    does_cm (EtpCts granted next pgn) room now = does_in_lane st h (Cm (EtpCts granted next pgn)) now
    does_cm (EtpDpo packets offset pgn) room now = does_in_session session.Etp (Cm (EtpDpo packets offset pgn)) room now
    does_cm (EtpEoma size pgn) room now = does_in_lane st h (Cm (EtpEoma size pgn)) now
    does_cm (EtpAbort reason pgn) room now = does_abort session.Etp pgn (Cm (EtpAbort reason pgn)) now

    does_ack : (to address : Address) (pgn : ℕ) → Does a st (ack_taken st from to address pgn)
    does_ack to address pgn = either (Does a st) (address.0 == st.address.0 || to.0 == st.address.0) _ _
        (record {
          own = record { address = h.address; ports = h.ports; sessions = h.sessions; lanes = lanes_stepped a.0 st.lanes from.0 settle h.lanes (λ lane. fits_answered a.0 from.0 lane pgn); queue = h.queue };
          lane = lanes_else a.0 st.lanes from.0 settle h.lanes (λ e. omega (arith, e));
          frames = [];
          queue = sym (append-nil st.queue);
          quiet = tt;
        })
        (does_none a st h)
      where
        settle : Lane → Lane × LaneStep
        settle lane = (answered lane pgn, nothing_to_do)

  does_request : (st : Station) → IsOwn a st → (from to : Address) (pgn : ℕ) → Does a st (request_taken st from to pgn)
  does_request st h from to pgn = either (Does a st) (to.0 == st.address.0) _ _ asked (does_none a st h)
    where
      quiet : IsQuiet a (answer st from pgn)
      quiet = subst (λ (x : Address). IsQuiet a (Rattle.tp_wire.specs.Rows.written (Ack 1 from pgn) x.0 255)) (sym h.address) (quiet_ack gives a 1 from pgn (omega arith))

      asked : Does a st (queues st (answer st from pgn ∷ []))
      asked = record {
        own = record { address = h.address; ports = h.ports; sessions = h.sessions; lanes = h.lanes; queue = each_append (λ (f : CanFrame). (meaning_of f.id).from.0 ≡ a.0) st.queue (answer st from pgn ∷ []) h.queue (quiet.from, tt) };
        lane = refl;
        frames = answer st from pgn ∷ [];
        queue = refl;
        quiet = (quiet, tt);
      }

  does_wire : (st : Station) → IsOwn a st → (wire : Wire) (from to : Address) (room : Bool) (now : ℕ) → (from.0 ≡ a.0 → ⊥) → comes_from wire from.0 ≡ true → Does a st (wire_taken st wire from to room now).station
  does_wire st h (Cm frame) from to room now n c = does_cm st h from n (ltb-true from.0 254 c) frame room now
  does_wire st h (Packet kind k bytes) from to room now n c = does_in_session st h from n (ltb-true from.0 254 c) (packet_kind kind to) (Packet kind k bytes) room now
  does_wire st h (Request pgn) from to room now n c = does_request st h from to pgn
  does_wire st h (Ack control address pgn) from to room now n c = does_ack st h from n (ltb-true from.0 254 c) to address pgn

  pub does_taken : (st : Station) (f : CanFrame) (room : Bool) (now : ℕ) → IsOwn a st → Does a st (taken st f room now).station
  does_taken st f room now h = on_test (λ b. looks_at st f ≡ b → Does a st (cond b (meaning_taken st (reading f) room now) (quietly st)).station) (looks_at st f)
      (λ _ l. by (other_node a st f h l) (reading f) refl) (λ _ l. does_none a st h) refl
    where
      by : ((meaning_of f.id).from.0 ≡ a.0 → ⊥) → (o : Option Meaning) → reading f ≡ o → Does a st (meaning_taken st o room now).station
      by n None e = does_none a st h
      by n (Some m) e =
          let r : IsRead f m = reading_tells f m e in
          does_wire st h m.0 m.1 m.2 room now (λ q. n (sym (ap (λ (x : Address). x.0) r.source) ∙ q)) r.comes

  -- What is told

  session_ports : (st : Station) → IsOwn a st → (key : Key) (wire : Wire) (room : Bool) (now : ℕ) → Each (IsOfPort a) (in_session st key wire room now).events
  session_ports st h key wire room now = (settles_received a st.ports h.ports.station small key st.sessions h.sessions wire room now).ports

  opening_ports : (st : Station) (from : Address) (frame : CmFrame) (room : Bool) (now : ℕ) → Each (IsOfPort a) (opening_received st.address st.ports frame from room now st.sessions).events
  opening_ports st from frame room now = subst (Each (IsOfPort a)) (sym (opening_untold st.address st.ports from room now st.sessions frame)) tt

  cm_ports : (st : Station) → IsOwn a st → (frame : CmFrame) (from : Address) (room : Bool) (now : ℕ) → Each (IsOfPort a) (cm_taken st frame from room now).events
  cm_ports st h (Rts size packets most pgn) from room now = opening_ports st from (Rts size packets most pgn) room now
  cm_ports st h (Cts granted next pgn) from room now = outcome_ports a st.address from _
  cm_ports st h (EndOfMsgAck size packets pgn) from room now = outcome_ports a st.address from _
  cm_ports st h (Bam size packets pgn) from room now = opening_ports st from (Bam size packets pgn) room now
  cm_ports st h (Abort reason pgn) from room now = outcome_ports a st.address from _
  cm_ports st h (EtpRts size pgn) from room now = opening_ports st from (EtpRts size pgn) room now
  cm_ports st h (EtpCts granted next pgn) from room now = outcome_ports a st.address from _
  cm_ports st h (EtpDpo packets offset pgn) from room now = session_ports st h (key_of from session.Etp) (Cm (EtpDpo packets offset pgn)) room now
  cm_ports st h (EtpEoma size pgn) from room now = outcome_ports a st.address from _
  cm_ports st h (EtpAbort reason pgn) from room now = outcome_ports a st.address from _

  meaning_ports : (st : Station) → IsOwn a st → (o : Option Meaning) (room : Bool) (now : ℕ) → Each (IsOfPort a) (meaning_taken st o room now).events
  meaning_ports st h None room now = tt
  meaning_ports st h (Some (Cm frame, from, to)) room now = cm_ports st h frame from room now
  meaning_ports st h (Some (Packet kind k bytes, from, to)) room now = session_ports st h (key_of from (packet_kind kind to)) (Packet kind k bytes) room now
  meaning_ports st h (Some (Request pgn, from, to)) room now = tt
  meaning_ports st h (Some (Ack control address pgn, from, to)) room now = tt

  pub taken_ports : (st : Station) (f : CanFrame) (room : Bool) (now : ℕ) → IsOwn a st → Each (IsOfPort a) (taken st f room now).events
  taken_ports st f room now h = either (λ (x : StationStep). Each (IsOfPort a) x.events) (looks_at st f) _ _ (meaning_ports st h (reading f) room now) tt

  -- one message at most is given

  module _ (x s : Address) where
    abbrev Gives : List Event → Type 0
    Gives events = IsOneGiving (station_told x s events)

    outcome_one : (st : Station) (from : Address) (o : Option Ended) → Gives (outcome_of st.address from o)
    outcome_one st from o = one_of_none _ (none_told x s (outcome_of st.address from o) (outcome_untold s st.address from o))

    session_one : (st : Station) → IsOwn a st → (key : Key) (wire : Wire) (room : Bool) (now : ℕ) → Gives (in_session st key wire room now).events
    session_one st h key wire room now = (settles_received a st.ports h.ports.station small key st.sessions h.sessions wire room now).one x s

    opening_one : (st : Station) (from : Address) (frame : CmFrame) (room : Bool) (now : ℕ) → Gives (opening_received st.address st.ports frame from room now st.sessions).events
    opening_one st from frame room now = subst Gives (sym (opening_untold st.address st.ports from room now st.sessions frame)) (one_of_none [] refl)

    cm_one : (st : Station) → IsOwn a st → (frame : CmFrame) (from : Address) (room : Bool) (now : ℕ) → Gives (cm_taken st frame from room now).events
    cm_one st h (Rts size packets most pgn) from room now = opening_one st from (Rts size packets most pgn) room now
    cm_one st h (Cts granted next pgn) from room now = outcome_one st from _
    cm_one st h (EndOfMsgAck size packets pgn) from room now = outcome_one st from _
    cm_one st h (Bam size packets pgn) from room now = opening_one st from (Bam size packets pgn) room now
    cm_one st h (Abort reason pgn) from room now = outcome_one st from _
    cm_one st h (EtpRts size pgn) from room now = opening_one st from (EtpRts size pgn) room now
    cm_one st h (EtpCts granted next pgn) from room now = outcome_one st from _
    cm_one st h (EtpDpo packets offset pgn) from room now = session_one st h (key_of from session.Etp) (Cm (EtpDpo packets offset pgn)) room now
    cm_one st h (EtpEoma size pgn) from room now = outcome_one st from _
    cm_one st h (EtpAbort reason pgn) from room now = outcome_one st from _

    meaning_one : (st : Station) → IsOwn a st → (o : Option Meaning) (room : Bool) (now : ℕ) → Gives (meaning_taken st o room now).events
    meaning_one st h None room now = one_of_none [] refl
    meaning_one st h (Some (Cm frame, from, to)) room now = cm_one st h frame from room now
    meaning_one st h (Some (Packet kind k bytes, from, to)) room now = session_one st h (key_of from (packet_kind kind to)) (Packet kind k bytes) room now
    meaning_one st h (Some (Request pgn, from, to)) room now = one_of_none [] refl
    meaning_one st h (Some (Ack control address pgn, from, to)) room now = one_of_none [] refl

    pub taken_one : (st : Station) (f : CanFrame) (room : Bool) (now : ℕ) → IsOwn a st → Gives (taken st f room now).events
    taken_one st f room now h = either (λ (y : StationStep). Gives y.events) (looks_at st f) _ _ (meaning_one st h (reading f) room now) (one_of_none [] refl)
