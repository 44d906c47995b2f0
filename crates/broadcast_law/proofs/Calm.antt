-- A frame that carries nothing of the broadcasts of s gives nothing of them, and leaves their session as it was or ends it.
use Rattle.std.proofs.Common.{◌≡◌, inr, ℕ, ◌<◌, ◌==◌, Bool, true, cond, ◌&&◌, ◌||◌, List, [], ◌∷◌, Option, Some, None, refl, sym, ap, ◌∙◌, eqb-true, eq-eqb}
use Rattle.std.proofs.lemmas.Option.{none-some}
use Rattle.bus_frame.specs.Frames.{CanFrame}
use Rattle.pgn_ids.specs.declared.address.Address.{Address}
use Rattle.tp_wire.specs.Reading.{reading}
use Rattle.tp_wire.specs.Rows.{goes_to}
use Rattle.tp_wire.specs.declared.constants.TheConstants.{ETP_MAX_WINDOW}
use Rattle.tp_wire.specs.declared.wire.Kind.{Kind}
use Rattle.tp_wire.specs.declared.wire.Kind.TheVariants.{Tp, Etp}
use Rattle.responder.specs.Unfinished.{Unfinished, begun}
use Rattle.responder.specs.Window.{most_of}
use Rattle.responder.specs.Asking.{asking, asked}
use Rattle.responder.specs.Room.{first_join}
use Rattle.session_table.specs.Key.{session_for}
use Rattle.tp_wire.specs.declared.wire.CmFrame.{CmFrame}
use Rattle.tp_wire.specs.declared.wire.CmFrame.TheVariants.{Rts, Cts, EndOfMsgAck, Bam, Abort, EtpRts, EtpCts, EtpDpo, EtpEoma, EtpAbort}
use Rattle.tp_wire.specs.declared.wire.Wire.{Wire}
use Rattle.tp_wire.specs.declared.wire.Wire.TheVariants.{Cm, Packet, Request, Ack}
use Rattle.session_table.specs.declared.key.Key.{Key}
use Rattle.session_table.specs.declared.key.SessionKind.{SessionKind}
use Rattle.session_table.specs.declared.key.SessionKind.TheVariants as session
use Rattle.session_table.specs.declared.incoming.Incoming.{Incoming}
use Rattle.session_table.specs.declared.incoming.Incoming.TheVariants as incoming
use Rattle.tp_wire.specs.Reason.{reason_byte}
use Rattle.responder.specs.Answers.{abort_frame}
use Rattle.bam_session.specs.States as bam
use Rattle.station_sessions.specs.Receiving.{received, flow_at}
use Rattle.station_core.specs.Station.{Station, StationStep, quietly, queues, by_session}
use Rattle.station_sessions.specs.Opening.{key_of, refusal, is_tp_size, is_etp_size, set_for, others_than, whole_join, peer_of, rts_received}
use Rattle.station_sessions.specs.Receiving.{goes_on_at, ended_at}
use Rattle.station_core.specs.Taking.{packet_kind, in_session, in_lane, abort_taken, cm_taken, answer, wire_taken, looks_at, meaning_taken, taken}
use Rattle.record_law.proofs.Lists.{Each}
use Rattle.record_law.proofs.Maps.{StaysOrEnds, session_at, put_stays, dropped_stays}
use Rattle.record_law.proofs.Tests.{on_test, either, by_option}
use Rattle.broadcast_law.proofs.Carried.{carried_foreign, of_lane, of_meaning, carried, Meaning, reading_tells}
use Rattle.broadcast_law.proofs.Ports.{IsUntold}
use Rattle.broadcast_law.proofs.Receptions.{Settles, settles_received, aborted_stays, key_all, no_broadcast}
use Rattle.broadcast_law.proofs.Stations.{IsOwn, outcome_untold}
use Rattle.broadcast_law.proofs.Takes.{other_node}

module _ (a : Address) (small : a.0 < 254) (s : Address) where
  pub record Calm (st : Station) (step : StationStep) : Type 0 where
    pub untold : Each (IsUntold s) step.events
    pub session : StaysOrEnds (session_at step.station.sessions (key_all s)) (session_at st.sessions (key_all s))

  calm_none : (st : Station) → Calm st (quietly st)
  calm_none st = record { untold = tt; session = inr refl }

  not_connection : (from : Address) (kind : Kind) → key_all s ≡ key_of from (session_for kind) → ⊥
  not_connection from kind e = no_broadcast kind (ap (λ (x : Key). x.kind) e)

  not_from : (from : Address) (kind : SessionKind) → (from.0 ≡ s.0 → ⊥) → key_all s ≡ key_of from kind → ⊥
  not_from from kind n e = n (sym (ap (λ (x : Key). x.source.0) e))

  module _ (st : Station) (key : Key) (n : key_all s ≡ key → ⊥) where
    calm_opened : (set : List ℕ) (state : Incoming) (frame : Option CanFrame) → Calm st (by_session st (goes_on_at key set st.sessions state frame))
    calm_opened set state frame = record { untold = tt; session = put_stays st.sessions key (key_all s) (set, state) n }

    calm_not_opened : (frame : Option CanFrame) → Calm st (by_session st (ended_at key st.sessions frame))
    calm_not_opened frame = record { untold = tt; session = dropped_stays st.sessions key (key_all s) }

    calm_session : IsOwn a st → (wire : Wire) (room : Bool) (now : ℕ) → Calm st (in_session st key wire room now)
    calm_session h wire room now =
        let r : Settles a key st.sessions (received st.ports key wire room now st.sessions) = settles_received a st.ports h.ports.station small key st.sessions h.sessions wire room now in
        record { untold = r.untold s n; session = r.stays (key_all s) n }

  calm_lane : (st : Station) (from : Address) (wire : Wire) (now : ℕ) → Calm st (in_lane st from wire now)
  calm_lane st from wire now = record { untold = outcome_untold s st.address from _; session = inr refl }

  calm_abort : (st : Station) → IsOwn a st → (from : Address) (kind : SessionKind) (pgn : ℕ) (wire : Wire) (now : ℕ) → Calm st (abort_taken st from kind pgn wire now)
  calm_abort st h from kind pgn wire now = record { untold = outcome_untold s st.address from _; session = aborted_stays a st.ports h.ports.station small (key_of from kind) st.sessions h.sessions pgn (key_all s) }

  -- where a BAM or a packet carries nothing of s, it is of another one
  of_other : (from to : Address) (w : Wire) → to.0 ≡ 255 → cond (from.0 == s.0 && to.0 == 255) (Some w) None ≡ None → from.0 ≡ s.0 → ⊥
  of_other from to w t h e = none-some w (sym h ∙ (λ i. cond (eq-eqb from.0 s.0 e i && eq-eqb to.0 255 t i) (Some w) None))

  calm_rts : (st : Station) (kind : Kind) (is_size : Bool) (from : Address) (size most pgn : ℕ) (room : Bool) (now : ℕ) → Calm st (by_session st (rts_received st.address st.ports kind is_size from size most pgn room now st.sessions))
  calm_rts st kind is_size from size most pgn room now =
      let m : Unfinished = begun kind (peer_of st.address from pgn) most (first_join kind size (flow_at st.ports (set_for st.ports pgn size))) in
      by_option (λ r. Calm st (by_session st r)) (refusal is_size room (set_for st.ports pgn size) (others_than st.sessions (key_of from (session_for kind)))) _ _
      (calm_opened st (key_of from (session_for kind)) (not_connection from kind) (set_for st.ports pgn size) (incoming.Connection (asking m (flow_at st.ports (set_for st.ports pgn size)) now)) (Some (asked m (flow_at st.ports (set_for st.ports pgn size)))))
      (λ reason. calm_not_opened st (key_of from (session_for kind)) (not_connection from kind) (Some (abort_frame kind (peer_of st.address from pgn) (reason_byte reason))))

  calm_cm : (st : Station) → IsOwn a st → (frame : CmFrame) (from to : Address) (room : Bool) (now : ℕ) → goes_to (Cm frame) to.0 ≡ true → of_lane s (Cm frame) from to ≡ None → Calm st (cm_taken st frame from room now)
  calm_cm st h (Rts size packets most pgn) from to room now g o = calm_rts st Tp (is_tp_size size packets) from size (most_of Tp most) pgn room now
  calm_cm st h (EtpRts size pgn) from to room now g o = calm_rts st Etp (is_etp_size size) from size ETP_MAX_WINDOW pgn room now
  calm_cm st h (Bam size packets pgn) from to room now g o =
      let n : key_all s ≡ key_of from session.Broadcast → ⊥ = not_from from session.Broadcast (of_other from to (Cm (Bam size packets pgn)) (eqb-true to.0 255 g) o) in
      by_option (λ r. Calm st (by_session st r)) (refusal (is_tp_size size packets) room (set_for st.ports pgn size) (others_than st.sessions (key_of from session.Broadcast))) _ _ (calm_opened st (key_of from session.Broadcast) n (set_for st.ports pgn size) (incoming.Broadcast (bam.announced from.0 pgn (whole_join size) now)) None)
      (λ reason. calm_not_opened st (key_of from session.Broadcast) n None)
  calm_cm st h (Cts granted next pgn) from to room now g o = calm_lane st from (Cm (Cts granted next pgn)) now
  calm_cm st h (EndOfMsgAck size packets pgn) from to room now g o = calm_lane st from (Cm (EndOfMsgAck size packets pgn)) now
  calm_cm st h (Abort reason pgn) from to room now g o = calm_abort st h from session.Tp pgn (Cm (Abort reason pgn)) now
  calm_cm st h (EtpCts granted next pgn) from to room now g o = calm_lane st from (Cm (EtpCts granted next pgn)) now
  calm_cm st h (EtpDpo packets offset pgn) from to room now g o = calm_session st (key_of from session.Etp) (not_connection from Etp) h (Cm (EtpDpo packets offset pgn)) room now
  calm_cm st h (EtpEoma size pgn) from to room now g o = calm_lane st from (Cm (EtpEoma size pgn)) now
  calm_cm st h (EtpAbort reason pgn) from to room now g o = calm_abort st h from session.Etp pgn (Cm (EtpAbort reason pgn)) now

  packet_other : (from to : Address) (k : ℕ) (bytes : List ℕ) → of_lane s (Packet Tp k bytes) from to ≡ None → key_all s ≡ key_of from (packet_kind Tp to) → ⊥
  packet_other from to k bytes o = on_test (λ b. (to.0 == 255) ≡ b → key_all s ≡ key_of from (cond b session.Broadcast session.Tp) → ⊥) (to.0 == 255)
      (λ _ e. not_from from session.Broadcast (of_other from to (Packet Tp k bytes) (eqb-true to.0 255 e) o))
      (λ _ e. not_connection from Tp) refl

  calm_wire : (st : Station) → IsOwn a st → (wire : Wire) (from to : Address) (room : Bool) (now : ℕ) → goes_to wire to.0 ≡ true → of_lane s wire from to ≡ None → Calm st (wire_taken st wire from to room now)
  calm_wire st h (Cm frame) from to room now g o = calm_cm st h frame from to room now g o
  calm_wire st h (Packet Tp k bytes) from to room now g o = calm_session st (key_of from (packet_kind Tp to)) (packet_other from to k bytes o) h (Packet Tp k bytes) room now
  calm_wire st h (Packet Etp k bytes) from to room now g o = calm_session st (key_of from session.Etp) (not_connection from Etp) h (Packet Etp k bytes) room now
  calm_wire st h (Request pgn) from to room now g o = either (λ x. Calm st (quietly x)) (to.0 == st.address.0) (queues st (answer st from pgn ∷ [])) st (record { untold = tt; session = inr refl }) (calm_none st)
  calm_wire st h (Ack control address pgn) from to room now g o = either (λ x. Calm st (quietly x)) (address.0 == st.address.0 || to.0 == st.address.0) _ _ (record { untold = tt; session = inr refl }) (calm_none st)

  pub calm_taken : (st : Station) (f : CanFrame) (room : Bool) (now : ℕ) → IsOwn a st → carried s f ≡ None → Calm st (taken st f room now)
  calm_taken st f room now h o = either (Calm st) (looks_at st f) _ _ (by (reading f) refl o) (calm_none st)
    where
      by : (m : Option Meaning) → reading f ≡ m → of_meaning s m ≡ None → Calm st (meaning_taken st m room now)
      by None e c = calm_none st
      by (Some m) e c = calm_wire st h m.0 m.1 m.2 room now (reading_tells f m e).goes c

  -- a station tells nothing of its own broadcasts
  pub own_untold : (st : Station) (f : CanFrame) (room : Bool) (now : ℕ) → IsOwn a st → a.0 ≡ s.0 → Each (IsUntold s) (taken st f room now).events
  own_untold st f room now h same = on_test (λ b. looks_at st f ≡ b → Each (IsUntold s) (cond b (meaning_taken st (reading f) room now) (quietly st)).events) (looks_at st f)
      (λ _ l. by (reading f) refl (carried_foreign s f (λ e. other_node a st f h l (e ∙ sym same)))) (λ _ l. tt) refl
    where
      by : (m : Option Meaning) → reading f ≡ m → of_meaning s m ≡ None → Each (IsUntold s) (meaning_taken st m room now).events
      by None e c = tt
      by (Some m) e c = (calm_wire st h m.0 m.1 m.2 room now (reading_tells f m e).goes c).untold
