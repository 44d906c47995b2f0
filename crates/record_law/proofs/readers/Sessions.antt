-- Each call of a station keeps what holds of its sessions.
use Rattle.std.proofs.Common.{◌≡◌, inr, ℕ, zero, suc, ◌==◌, Bool, true, false, cond, not, ◌&&◌, ◌||◌, List, [], ◌∷◌, length, Option, Some, None, refl, arith}
use Rattle.std.specs.Prelude.{nat_le, option_and_then}
use Rattle.std.specs.FinMap as finmap
use Rattle.std.proofs.lemmas.Bool.{eqb-false}
use Rattle.bus_frame.specs.Frames.{CanFrame}
use Rattle.pgn_ids.specs.Identifier.{meaning_of}
use Rattle.pgn_ids.specs.declared.address.Address.{Address}
use Rattle.tp_wire.specs.Groups.{tp_cm, tp_dt, etp_cm, etp_dt, request, acknowledgement}
use Rattle.tp_wire.specs.Reading.{field_of, of_five, tp_cm_of, etp_cm_of, packet_of, request_of, ack_of, body_of, between, reading}
use Rattle.tp_wire.specs.Rows.{goes_to, comes_from}
use Rattle.tp_wire.specs.declared.constants.TheConstants.{ETP_MAX_WINDOW}
use Rattle.tp_wire.specs.declared.wire.Kind.{Kind}
use Rattle.tp_wire.specs.declared.wire.Kind.TheVariants.{Tp, Etp}
use Rattle.tp_wire.specs.declared.wire.CmFrame.{CmFrame}
use Rattle.tp_wire.specs.declared.wire.CmFrame.TheVariants.{Rts, Cts, EndOfMsgAck, Bam, Abort, EtpRts, EtpCts, EtpDpo, EtpEoma, EtpAbort}
use Rattle.tp_wire.specs.declared.wire.Wire.{Wire}
use Rattle.tp_wire.specs.declared.wire.Wire.TheVariants.{Cm, Packet, Request, Ack}
use Rattle.tp_wire.specs.declared.reason.AbortReason.{AbortReason}
use Rattle.tp_wire.specs.declared.reason.AbortReason.TheVariants.{NoFurtherSession, Resources, Other}
use Rattle.responder.specs.Unfinished.{Unfinished, begun}
use Rattle.responder.specs.Window.{most_of}
use Rattle.responder.specs.Asking.{asking}
use Rattle.responder.specs.Room.{first_join}
use Rattle.responder.specs.declared.flow.Flow.{Flow}
use Rattle.session_table.specs.Key.{session_for}
use Rattle.bam_session.specs.States as bam
use Rattle.session_table.specs.DueOrder.{first_due}
use Rattle.session_table.specs.declared.TheConstants.{MAX_SESSIONS}
use Rattle.session_table.specs.declared.key.Key.{Key}
use Rattle.session_table.specs.declared.key.SessionKind.TheVariants as session
use Rattle.session_table.specs.declared.incoming.Incoming.{Incoming}
use Rattle.session_table.specs.declared.incoming.Incoming.TheVariants as incoming
use Rattle.station_sessions.specs.Receiving.{Inbound, flow_at, fired_at, Reception}
use Rattle.station_lanes.specs.LaneReaders.{due_lane}
use Rattle.station_core.specs.Station.{Station, StationStep, by_session}
use Rattle.station_sessions.specs.Opening.{key_of, refusal, is_tp_size, is_etp_size, set_for, others_than, whole_join, peer_of, rts_received, bam_received}
use Rattle.station_core.specs.Taking.{packet_kind, cm_taken, wire_taken, meaning_taken, looks_at, taken}
use Rattle.station_core.specs.Timers.{lane_fired, fired}
use Rattle.station_core.specs.Closing.{closed_below, closed}
use Rattle.port_table.specs.Ports.{without_port}
use Rattle.record_law.proofs.Tests.{either}
use Rattle.record_law.proofs.readers.Filled.{IsFilled, IsSeven, asking_filled}
use Rattle.record_law.proofs.readers.Keeping.{join_of, AreKept, kept_put, kept_dropped, kept_received, kept_fired, kept_aborted, kept_unbound}

-- What a frame means has packets of seven bytes

abbrev Seven : Option Wire → Type 0
Seven None = Unit {0}
Seven (Some w) = IsSeven w

field_seven : (p q r : ℕ) (f : ℕ → Option Wire) → ((pgn : ℕ) → Seven (f pgn)) → Seven (option_and_then f (field_of p q r))
field_seven p q r f h = by (field_of p q r)
  where
    by : (o : Option ℕ) → Seven (option_and_then f o)
    by None = tt
    by (Some pgn) = h pgn

five_seven : (k : ℕ → ℕ → ℕ → ℕ → ℕ → ℕ → Option Wire) → ((a b c d e pgn : ℕ) → Seven (k a b c d e pgn)) → (bytes : List ℕ) → Seven (of_five k bytes)
five_seven k h (a ∷ b ∷ c ∷ d ∷ e ∷ p ∷ q ∷ r ∷ []) = field_seven p q r (k a b c d e) (h a b c d e)
five_seven k h bytes = tt

tp_cm_seven : (bytes : List ℕ) → Seven (tp_cm_of bytes)
unfolding tp_cm_of
tp_cm_seven bytes = five_seven _ (λ control b c d e pgn.
    either Seven (control == 16) _ _ tt (either Seven (control == 17) _ _ tt (either Seven (control == 19) _ _ tt (either Seven (control == 32) _ _ tt (either Seven (control == 255) _ _ tt tt))))) bytes

etp_cm_seven : (bytes : List ℕ) → Seven (etp_cm_of bytes)
unfolding etp_cm_of
etp_cm_seven bytes = five_seven _ (λ control b c d e pgn.
    either Seven (control == 20) _ _ tt (either Seven (control == 21) _ _ tt (either Seven (control == 22) _ _ tt (either Seven (control == 23) _ _ tt (either Seven (control == 255) _ _ tt tt))))) bytes

packet_seven : (kind : Kind) (bytes : List ℕ) → Seven (packet_of kind bytes)
unfolding packet_of
packet_seven kind (sequence ∷ b ∷ c ∷ d ∷ e ∷ p ∷ q ∷ r ∷ []) = either Seven (sequence == 0) _ _ tt refl
packet_seven kind bytes = tt

request_seven : (bytes : List ℕ) → Seven (request_of bytes)
unfolding request_of
request_seven (p ∷ q ∷ r ∷ rest) = field_seven p q r _ (λ pgn. tt)
request_seven bytes = tt

ack_seven : (bytes : List ℕ) → Seven (ack_of bytes)
unfolding ack_of
ack_seven bytes = five_seven _ (λ control b c d address pgn. tt) bytes

body_seven : (pgn : ℕ) (bytes : List ℕ) → Seven (body_of pgn bytes)
unfolding body_of
body_seven pgn bytes =
    either Seven (pgn == tp_cm) _ _ (tp_cm_seven bytes)
    (either Seven (pgn == tp_dt) _ _ (packet_seven Tp bytes)
    (either Seven (pgn == etp_cm) _ _ (etp_cm_seven bytes)
    (either Seven (pgn == etp_dt) _ _ (packet_seven Etp bytes)
    (either Seven (pgn == request) _ _ (request_seven bytes)
    (either Seven (pgn == acknowledgement) _ _ (ack_seven bytes) tt)))))

abbrev pub Meaning : Type 0
Meaning = Wire × Address × Address

-- so has its wire
abbrev pub MeansSeven : Option Meaning → Type 0
MeansSeven None = Unit {0}
MeansSeven (Some m) = IsSeven m.0

between_seven : (from to : Address) (o : Option Wire) → Seven o → MeansSeven (between from to o)
between_seven from to None h = tt
between_seven from to (Some w) h = either MeansSeven (goes_to w to.0 && comes_from w from.0) _ _ h tt

pub reading_seven : (f : CanFrame) → MeansSeven (reading f)
unfolding reading
reading_seven f = between_seven (meaning_of f.id).from (meaning_of f.id).to (body_of (meaning_of f.id).pgn f.bytes) (body_seven (meaning_of f.id).pgn f.bytes)

-- Frames

abbrev Kept : Station → Type 0
Kept st = AreKept st.sessions

-- a session opens only with a port to give to
has_port : (is_size room : Bool) (set : List ℕ) (others : ℕ) → refusal is_size room set others ≡ None → length set ≡ 0 → ⊥
has_port is_size room set others e none = eqb-false (length set) 0 (by is_size (length set == 0) e) none
  where
    by : (s t : Bool) → cond (not s) (Some Other) (cond t (Some Resources) (cond (nat_le MAX_SESSIONS others) (Some NoFurtherSession) (cond (not room) (Some Resources) None))) ≡ None → t ≡ false
    by true true e = absurd cc
    by true false e = refl
    by false t e = absurd cc

module _ (st : Station) (each : Kept st) where
  by_refusal : (o : Option AbortReason) (x : Reception) (y : AbortReason → Reception) → (o ≡ None → AreKept x.sessions) → ((reason : AbortReason) → AreKept (y reason).sessions) → AreKept (elim o as (λ (_ : Option AbortReason). Reception) [ None ↦ x | Some reason ↦ y reason ]).sessions
  by_refusal None x y h k = h refl
  by_refusal (Some reason) x y h k = k reason

  kept_opened : (key : Key) (set : List ℕ) (state : Incoming) → (length set ≡ 0 → ⊥) → IsFilled (join_of state) → AreKept (finmap.insert st.sessions key (Some (set, state)))
  kept_opened key set state some filled = kept_put st.sessions key each (set, state) (record { some = some; filled = filled })

  module _ (from : Address) (room : Bool) (now : ℕ) where
    kept_rts : (kind : Kind) (is_size : Bool) (size most pgn : ℕ) → Kept (by_session st (rts_received st.address st.ports kind is_size from size most pgn room now st.sessions)).station
    kept_rts kind is_size size most pgn =
        let key : Key = key_of from (session_for kind) in
        let flow : Flow = flow_at st.ports (set_for st.ports pgn size) in
        let m : Unfinished = begun kind (peer_of st.address from pgn) most (first_join kind size flow) in
        by_refusal (refusal is_size room (set_for st.ports pgn size) (others_than st.sessions key)) _ _
        (λ e. kept_opened key (set_for st.ports pgn size) (incoming.Connection (asking m flow now)) (has_port is_size room (set_for st.ports pgn size) (others_than st.sessions key) e)
        (asking_filled m flow now (inr (omega arith, omega arith, omega arith))))
        (λ reason. kept_dropped st.sessions key each)

    kept_bam : (size packets pgn : ℕ) → Kept (by_session st (bam_received st.ports from size packets pgn room now st.sessions)).station
    kept_bam size packets pgn =
        let key : Key = key_of from session.Broadcast in
        by_refusal (refusal (is_tp_size size packets) room (set_for st.ports pgn size) (others_than st.sessions key)) _ _
        (λ e. kept_opened key (set_for st.ports pgn size) (incoming.Broadcast (bam.announced from.0 pgn (whole_join size) now)) (has_port (is_tp_size size packets) room (set_for st.ports pgn size) (others_than st.sessions key) e) (inr (omega arith, omega arith, omega arith)))
        (λ reason. kept_dropped st.sessions key each)

    kept_cm : (frame : CmFrame) → Kept (cm_taken st frame from room now).station
    kept_cm (Rts size packets most pgn) = kept_rts Tp (is_tp_size size packets) size (most_of Tp most) pgn
    kept_cm (Cts granted next pgn) = each
    kept_cm (EndOfMsgAck size packets pgn) = each
    kept_cm (Bam size packets pgn) = kept_bam size packets pgn
    kept_cm (Abort reason pgn) = kept_aborted st.sessions (key_of from session.Tp) each pgn
    kept_cm (EtpRts size pgn) = kept_rts Etp (is_etp_size size) size ETP_MAX_WINDOW pgn
    kept_cm (EtpCts granted next pgn) = each
    kept_cm (EtpDpo packets offset pgn) = kept_received st.sessions (key_of from session.Etp) each st.ports (Cm (EtpDpo packets offset pgn)) room now tt
    kept_cm (EtpEoma size pgn) = each
    kept_cm (EtpAbort reason pgn) = kept_aborted st.sessions (key_of from session.Etp) each pgn

    kept_wire : (wire : Wire) (to : Address) → IsSeven wire → Kept (wire_taken st wire from to room now).station
    kept_wire (Cm frame) to seven = kept_cm frame
    kept_wire (Packet kind sequence bytes) to seven = kept_received st.sessions (key_of from (packet_kind kind to)) each st.ports (Packet kind sequence bytes) room now seven
    kept_wire (Request pgn) to seven = either Kept (to.0 == st.address.0) _ _ each each
    kept_wire (Ack control address pgn) to seven = either Kept (address.0 == st.address.0 || to.0 == st.address.0) _ _ each each

  kept_meaning : (o : Option Meaning) (room : Bool) (now : ℕ) → MeansSeven o → Kept (meaning_taken st o room now).station
  kept_meaning None room now h = each
  kept_meaning (Some m) room now h = kept_wire m.1 room now m.0 m.2 h

  pub kept_taken : (f : CanFrame) (room : Bool) (now : ℕ) → Kept (taken st f room now).station
  kept_taken f room now = either (λ (x : StationStep). Kept x.station) (looks_at st f) _ _ (kept_meaning (reading f) room now (reading_seven f)) each

  -- Timers and ports

  kept_lane_fired : (now : ℕ) (o : Option ℕ) → Kept (lane_fired st now o).station
  kept_lane_fired now None = each
  kept_lane_fired now (Some to) = each

  pub kept_timer : (now : ℕ) → Kept (fired st now).station
  kept_timer now = by (first_due st.sessions now)
    where
      by : (o : Option Key) → Kept (elim o as (λ (_ : Option Key). StationStep) [ None ↦ lane_fired st now (due_lane st.lanes now) | Some key ↦ by_session st (fired_at st.ports key now st.sessions) ]).station
      by None = kept_lane_fired now (due_lane st.lanes now)
      by (Some key) = kept_fired st.sessions key each st.ports now

  kept_below : (number n : ℕ) → Kept (closed_below st number n)
  unfolding closed_below
  kept_below number zero = each
  kept_below number (suc n) =
      let before : Inbound = (closed_below st number n).sessions in
      let one : AreKept _ = kept_unbound before (key_of (record { 0 = n }) session.Broadcast) (kept_below number n) number in
      let two : AreKept _ = kept_unbound _ (key_of (record { 0 = n }) session.Tp) one number in
      kept_unbound _ (key_of (record { 0 = n }) session.Etp) two number

pub kept_closed : (st : Station) (number : ℕ) → AreKept st.sessions → AreKept (closed st number).sessions
kept_closed st number each = kept_below (record st { ports = without_port st.ports number }) each number 254
