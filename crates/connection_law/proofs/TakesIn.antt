-- The destination's station takes a frame that carries nothing from the sender to it.
use Rattle.std.proofs.Common.{◌≡◌, ◌⊎◌, inl, inr, ℕ, ◌<◌, ◌==◌, Bool, true, false, cond, not, ◌&&◌, ◌||◌, List, [], ◌∷◌, ◌++◌, filter_map, Option, Some, None, refl, sym, ap, ◌∙◌, subst, arith, append-nil, eqb-true, eq-eqb, ltb-true}
use Rattle.std.specs.Prelude.{option_to_list}
use Rattle.std.specs.List.{cons_option}
use Rattle.std.specs.FinMap as finmap
use Rattle.std.proofs.lemmas.Bool.{eqb-false}
use Rattle.std.proofs.lemmas.Option.{none-some}
use Rattle.bus_frame.specs.Frames.{CanFrame}
use Rattle.pgn_ids.specs.Address.{is_one}
use Rattle.pgn_ids.specs.Identifier.{meaning_of}
use Rattle.pgn_ids.specs.declared.address.Address.{Address}
use Rattle.tp_wire.specs.Reading.{reading}
use Rattle.tp_wire.specs.Reason.{reason_byte}
use Rattle.tp_wire.specs.Rows.{goes_to, comes_from}
use Rattle.tp_wire.specs.declared.constants.TheConstants.{ETP_MAX_WINDOW}
use Rattle.tp_wire.specs.declared.wire.Kind.{Kind}
use Rattle.tp_wire.specs.declared.wire.Kind.TheVariants.{Tp, Etp}
use Rattle.tp_wire.specs.declared.wire.CmFrame.{CmFrame}
use Rattle.tp_wire.specs.declared.wire.CmFrame.TheVariants.{Rts, Cts, EndOfMsgAck, Bam, Abort, EtpRts, EtpCts, EtpDpo, EtpEoma, EtpAbort}
use Rattle.tp_wire.specs.declared.wire.Wire.{Wire}
use Rattle.tp_wire.specs.declared.wire.Wire.TheVariants.{Cm, Packet, Request, Ack}
use Rattle.responder.specs.Answers.{abort_frame}
use Rattle.responder.specs.Unfinished.{Unfinished, begun}
use Rattle.responder.specs.Window.{most_of}
use Rattle.responder.specs.Readers.{unfinished_of}
use Rattle.responder.specs.Asking.{asked}
use Rattle.responder.specs.Room.{first_join}
use Rattle.bam_session.specs.States as bam-states
use Rattle.bam_session.specs.Receiving as bam-steps
use Rattle.lane_core.specs.Lane.{Lane}
use Rattle.lane_core.specs.Step.{nothing_to_do, LaneStep}
use Rattle.lane_core.specs.Hear.{heard}
use Rattle.session_table.specs.declared.key.Key.{Key}
use Rattle.session_table.specs.declared.key.SessionKind.{SessionKind}
use Rattle.session_table.specs.declared.key.SessionKind.TheVariants as session
use Rattle.session_table.specs.declared.incoming.Incoming.{Incoming}
use Rattle.session_table.specs.declared.incoming.Incoming.TheVariants as incoming
use Rattle.session_table.specs.Sessions.{state_at}
use Rattle.session_table.specs.Key.{session_for}
use Rattle.station_lanes.specs.Lanes.{Lanes}
use Rattle.station_lanes.specs.LaneCalls.{outcome_of}
use Rattle.message_events.specs.declared.event.Event.{Event}
use Rattle.station_sessions.specs.Receiving.{Inbound, received, received_by, broadcast_settled, flow_at, aborted_at}
use Rattle.station_core.specs.Station.{Station, StationStep, quietly, queues, by_lane, by_session}
use Rattle.station_sessions.specs.Opening.{key_of, refusal, is_tp_size, is_etp_size, set_for, others_than, peer_of, rts_received, bam_received}
use Rattle.station_core.specs.Taking.{packet_kind, in_session, in_lane, abort_taken, cm_taken, answer, wire_taken, looks_at, meaning_taken, taken}
use Rattle.record_law.proofs.Maps.{state_put_else, state_dropped_else}
use Rattle.record_law.proofs.Tests.{on_test, either, by_option}
use Rattle.broadcast_law.proofs.Carried.{Meaning, IsRead, reading_tells}
use Rattle.broadcast_law.proofs.LaneSteps.{IsLaneOf}
use Rattle.broadcast_law.proofs.Receptions.{no_broadcast}
use Rattle.broadcast_law.proofs.Stations.{IsOwn}
use Rattle.connection_law.proofs.Frames.{goes, returns, forward_of, of_forward, is_way, returns_ack_else}
use Rattle.connection_law.proofs.LaneWires.{FitsOut, out_heard}
use Rattle.connection_law.proofs.SessionWires.{RepliesIn, aborted_in, asked_in}
use Rattle.connection_law.proofs.Sides.{said_out, replied_elsewhere}
use Rattle.connection_law.proofs.Replies.{replies_received}
use Rattle.connection_law.proofs.Others.{received_same, aborted_recedes}
use Rattle.connection_law.proofs.Tellings.{tells_received, telling_foreign, telling_broadcast, outcome_untold}
use Rattle.connection_law.proofs.Roles.{station_told, AsideIn}
use Rattle.connection_law.proofs.View.{Laws, IsPair}
use Rattle.connection_law.proofs.Sender.{small_s, small_d}

module _ (laws : Laws) (s d : Address) (pair : IsPair s d) where
  low_d : d.0 < 256
  low_d = let l : d.0 < 254 = small_d laws s d pair in omega arith

  not_all_s : 255 ≡ s.0 → ⊥
  not_all_s e = let l : s.0 < 254 = small_s laws s d pair in omega (arith, e, l)

  not_all_d : d.0 ≡ 255 → ⊥
  not_all_d e = let l : d.0 < 254 = small_d laws s d pair in omega (arith, e, l)

  abbrev Aside : Station → StationStep → Type 0
  Aside st step = AsideIn laws s d pair st step

  pub in_none : (st : Station) → Aside st (quietly st)
  in_none st = record { sessions = λ k. inr refl; frames = []; queue = sym (append-nil st.queue); none = refl; untold = refl }

  abbrev own_key : Kind → Key
  own_key k = key_of s (session_for k)

  -- a lane makes a step: its frames are no answers
  pub in_lane_step : (st : Station) → IsOwn d st → (to : Address) (step : Lane → Lane × LaneStep) → ((lane : Lane) → IsLaneOf d.0 to.0 lane → FitsOut d.0 to.0 (step lane)) → Aside st (by_lane st to step)
  in_lane_step st h to step fits = by (finmap.get st.lanes to.0) refl
    where
      after : Option Lane → StationStep
      after o = record {
        station = record st { queue = st.queue ++ (elim o as (λ (_ : Option Lane). LaneStep) [ None ↦ nothing_to_do | Some x ↦ (step x).1 ]).frames; lanes = elim o as (λ (_ : Option Lane). Lanes) [ None ↦ st.lanes | Some x ↦ finmap.insert st.lanes to.0 (step x).0 ] };
        events = outcome_of st.address to (elim o as (λ (_ : Option Lane). LaneStep) [ None ↦ nothing_to_do | Some x ↦ (step x).1 ]).ended;
      }

      by : (o : Option Lane) → finmap.get st.lanes to.0 ≡ o → Aside st (after o)
      by None e = record { sessions = λ k. inr refl; frames = []; queue = refl; none = refl; untold = refl }
      by (Some x) e =
          let k : IsLaneOf d.0 to.0 x = h.lanes to.0 x e in
          record { sessions = λ k. inr refl; frames = (step x).1.frames; queue = refl; none = said_out laws.gives s d d.0 to.0 (step x).1.frames low_d k.small (fits x k).1; untold = outcome_untold s d d st.address to (step x).1.ended }

  -- sessions that are not those of s change, and a reply to somebody else is queued
  in_session_else : (st : Station) (sessions : Inbound) (frame : Option CanFrame) (events : List Event) → ((k : Kind) → state_at sessions (own_key k) ≡ state_at st.sessions (own_key k)) → filter_map (returns s d) (option_to_list frame) ≡ [] → station_told d s d events ≡ []
      → Aside st (record { station = record st { queue = st.queue ++ option_to_list frame; sessions = sessions }; events = events })
  in_session_else st sessions frame events same e u = record { sessions = λ k. inr (same k); frames = option_to_list frame; queue = refl; none = e; untold = u }

  module _ (st : Station) (h : IsOwn d st) (from : Address) where
    apart_key : (kind : SessionKind) → (from.0 ≡ s.0 → ⊥) → (k : Kind) → own_key k ≡ key_of from kind → ⊥
    apart_key kind n k e = n (sym (ap (λ (x : Key). x.source.0) e))

    broadcast_key : (k : Kind) → own_key k ≡ key_of from session.Broadcast → ⊥
    broadcast_key k e = no_broadcast k (sym (ap (λ (x : Key). x.kind) e))

    fits : (pgn : ℕ) → Rattle.broadcast_law.proofs.SessionSteps.FitsPeer d.0 from.0 (peer_of st.address from pgn)
    fits pgn = (ap (λ (x : Address). x.0) h.address, refl)

    module _ (small : from.0 < 254) (n : from.0 ≡ s.0 → ⊥) where
      low : from.0 < 256
      low = omega arith

      elsewhere : (frame : Option CanFrame) → RepliesIn d.0 from.0 frame → filter_map (returns s d) (option_to_list frame) ≡ []
      elsewhere frame e = replied_elsewhere laws.gives s d d.0 from.0 frame low_d low n e

      else_to : (sessions : Inbound) (frame : Option CanFrame) → ((k : Kind) → state_at sessions (own_key k) ≡ state_at st.sessions (own_key k)) → RepliesIn d.0 from.0 frame → Aside st (record { station = record st { queue = st.queue ++ option_to_list frame; sessions = sessions }; events = [] })
      else_to sessions frame same e = in_session_else st sessions frame [] same (elsewhere frame e) refl

      rts : (kind : Kind) (is_size : Bool) (size most pgn : ℕ) (room : Bool) (now : ℕ) → Aside st (by_session st (rts_received st.address st.ports kind is_size from size most pgn room now st.sessions))
      rts kind is_size size most pgn room now =
          let m : Unfinished = begun kind (peer_of st.address from pgn) most (first_join kind size (flow_at st.ports (set_for st.ports pgn size))) in
          by_option (λ r. Aside st (by_session st r)) (refusal is_size room (set_for st.ports pgn size) (others_than st.sessions (key_of from (session_for kind)))) _ _
          (else_to _ (Some (asked m (flow_at st.ports (set_for st.ports pgn size)))) (λ k. state_put_else st.sessions (key_of from (session_for kind)) _ (own_key k) (apart_key (session_for kind) n k)) (asked_in d.0 from.0 m (flow_at st.ports (set_for st.ports pgn size)) (fits pgn)))
          (λ reason. else_to _ (Some (abort_frame kind (peer_of st.address from pgn) (reason_byte reason))) (λ k. state_dropped_else st.sessions (key_of from (session_for kind)) (own_key k) (apart_key (session_for kind) n k)) (aborted_in d.0 from.0 kind (peer_of st.address from pgn) (reason_byte reason) (fits pgn)))

      its_session : (kind : SessionKind) (wire : Wire) (room : Bool) (now : ℕ) → Aside st (in_session st (key_of from kind) wire room now)
      its_session kind wire room now = in_session_else st _ (received st.ports (key_of from kind) wire room now st.sessions).frame (received st.ports (key_of from kind) wire room now st.sessions).events
          (λ k. received_same (key_of from kind) (own_key k) (apart_key kind n k) st.sessions st.ports wire room now)
          (elsewhere _ (replies_received d (key_of from kind) st.sessions st.ports h.sessions wire room now))
          (telling_foreign s d d d (key_of from kind) _ n (tells_received d (key_of from kind) st.sessions st.ports h.ports.station h.sessions wire room now))

    bam : (size packets pgn : ℕ) (room : Bool) (now : ℕ) → Aside st (by_session st (bam_received st.ports from size packets pgn room now st.sessions))
    bam size packets pgn room now = by_option (λ r. Aside st (by_session st r)) (refusal (is_tp_size size packets) room (set_for st.ports pgn size) (others_than st.sessions (key_of from session.Broadcast))) _ _
        (in_session_else st _ None [] (λ k. state_put_else st.sessions (key_of from session.Broadcast) _ (own_key k) (broadcast_key k)) refl refl)
        (λ reason. in_session_else st _ None [] (λ k. state_dropped_else st.sessions (key_of from session.Broadcast) (own_key k) (broadcast_key k)) refl refl)

    -- a broadcast queues nothing
    silent : (set : List ℕ) (b : bam-states.Incoming) (room : Bool) (r : bam-steps.Received) → (broadcast_settled st.ports.station (key_of from session.Broadcast) set room st.sessions b r).frame ≡ None
    silent set b room (bam-steps.Awaits t) = refl
    silent set b true (bam-steps.Completes bytes) = refl
    silent set b false (bam-steps.Completes bytes) = refl
    silent set b room bam-steps.Drops = refl

    no_frame : (wire : Wire) (room : Bool) (now : ℕ) → (received st.ports (key_of from session.Broadcast) wire room now st.sessions).frame ≡ None
    no_frame wire room now = by (state_at st.sessions (key_of from session.Broadcast)) refl
      where
        by : (o : Option (List ℕ × Incoming)) → state_at st.sessions (key_of from session.Broadcast) ≡ o → (received_by o st.ports (key_of from session.Broadcast) wire room now st.sessions).frame ≡ None
        by None e = refl
        by (Some (set, incoming.Broadcast b)) e = silent set b room (bam-steps.stepped b wire now)
        by (Some (set, incoming.Connection u)) e = absurd (no_broadcast (unfinished_of u).kind (h.sessions (key_of from session.Broadcast) (set, incoming.Connection u) e).state.1)

    its_broadcast : (wire : Wire) (room : Bool) (now : ℕ) → Aside st (in_session st (key_of from session.Broadcast) wire room now)
    its_broadcast wire room now = in_session_else st _ (received st.ports (key_of from session.Broadcast) wire room now st.sessions).frame (received st.ports (key_of from session.Broadcast) wire room now st.sessions).events
        (λ k. received_same (key_of from session.Broadcast) (own_key k) (broadcast_key k) st.sessions st.ports wire room now)
        (ap (λ o. filter_map (returns s d) (option_to_list o)) (no_frame wire room now))
        (telling_broadcast s d d d (key_of from session.Broadcast) _ refl not_all_d (tells_received d (key_of from session.Broadcast) st.sessions st.ports h.ports.station h.sessions wire room now))

    its_lane : (wire : Wire) (now : ℕ) → Aside st (in_lane st from wire now)
    its_lane wire now = in_lane_step st h from (λ lane. heard lane wire now) (λ lane k. out_heard d.0 from.0 lane wire now k)

    its_abort : (kind : SessionKind) (pgn : ℕ) (wire : Wire) (now : ℕ) → Aside st (abort_taken st from kind pgn wire now)
    its_abort kind pgn wire now =
        let less : Station = record st { sessions = aborted_at (key_of from kind) pgn st.sessions } in
        let own : IsOwn d less = record { address = h.address; ports = h.ports; sessions = Rattle.broadcast_law.proofs.Receptions.each_aborted d st.ports h.ports.station (small_d laws s d pair) (key_of from kind) st.sessions h.sessions pgn; lanes = h.lanes; queue = h.queue } in
        let r : Aside less (in_lane less from wire now) = in_lane_step less own from (λ lane. heard lane wire now) (λ lane k. out_heard d.0 from.0 lane wire now k) in
        record { sessions = λ k. aborted_recedes st.sessions (key_of from kind) (own_key k) pgn; frames = r.frames; queue = r.queue; none = r.none; untold = r.untold }

    -- what is carried is of s to d: otherwise it is of somebody else
    of_other : (to : Address) (w : Wire) → to.0 ≡ d.0 → cond (is_way s d from to) (Some w) None ≡ None → from.0 ≡ s.0 → ⊥
    of_other to w t o e = none-some w (sym o ∙ (λ i. cond (eq-eqb from.0 s.0 e i && eq-eqb to.0 d.0 t i) (Some w) None))

    one_of : (to : Address) → (to.0 ≡ d.0) ⊎ (to.0 ≡ 255) → is_one to.0 ≡ true → to.0 ≡ d.0
    one_of to (inl e) g = e
    one_of to (inr e) g = absurd (let l : to.0 < 254 = ltb-true to.0 254 g in omega (arith, l, e))

    aside_cm : (frame : CmFrame) (to : Address) (room : Bool) (now : ℕ) → from.0 < 254 → (to.0 ≡ d.0) ⊎ (to.0 ≡ 255) → goes_to (Cm frame) to.0 ≡ true → of_forward s d (Cm frame) from to ≡ None → Aside st (cm_taken st frame from room now)
    aside_cm (Rts size packets most pgn) to room now c t g o = rts c (of_other to _ (one_of to t g) o) Tp (is_tp_size size packets) size (most_of Tp most) pgn room now
    aside_cm (Cts count next pgn) to room now c t g o = its_lane (Cm (Cts count next pgn)) now
    aside_cm (EndOfMsgAck size packets pgn) to room now c t g o = its_lane (Cm (EndOfMsgAck size packets pgn)) now
    aside_cm (Bam size packets pgn) to room now c t g o = bam size packets pgn room now
    aside_cm (Abort reason pgn) to room now c t g o = its_abort session.Tp pgn (Cm (Abort reason pgn)) now
    aside_cm (EtpRts size pgn) to room now c t g o = rts c (of_other to _ (one_of to t g) o) Etp (is_etp_size size) size ETP_MAX_WINDOW pgn room now
    aside_cm (EtpCts count next pgn) to room now c t g o = its_lane (Cm (EtpCts count next pgn)) now
    aside_cm (EtpDpo packets offset pgn) to room now c t g o = its_session c (of_other to _ (one_of to t g) o) session.Etp (Cm (EtpDpo packets offset pgn)) room now
    aside_cm (EtpEoma size pgn) to room now c t g o = its_lane (Cm (EtpEoma size pgn)) now
    aside_cm (EtpAbort reason pgn) to room now c t g o = its_abort session.Etp pgn (Cm (EtpAbort reason pgn)) now

    aside_packet : (to : Address) (number : ℕ) (bytes : List ℕ) (room : Bool) (now : ℕ) → from.0 < 254 → (to.0 ≡ d.0) ⊎ (to.0 ≡ 255) → cond (is_way s d from to) (Some (Packet Tp number bytes)) None ≡ None → Aside st (in_session st (key_of from (packet_kind Tp to)) (Packet Tp number bytes) room now)
    aside_packet to number bytes room now c t o = on_test (λ b. (to.0 == 255) ≡ b → Aside st (in_session st (key_of from (cond b session.Broadcast session.Tp)) (Packet Tp number bytes) room now)) (to.0 == 255)
        (λ _ _. its_broadcast (Packet Tp number bytes) room now)
        (λ _ e. its_session c (of_other to _ (not_global t (eqb-false to.0 255 e)) o) session.Tp (Packet Tp number bytes) room now) refl
      where
        not_global : (to.0 ≡ d.0) ⊎ (to.0 ≡ 255) → (to.0 ≡ 255 → ⊥) → to.0 ≡ d.0
        not_global (inl e) n = e
        not_global (inr e) n = absurd (n e)

    aside_wire : (w : Wire) (to : Address) (room : Bool) (now : ℕ) → comes_from w from.0 ≡ true → (to.0 ≡ d.0) ⊎ (to.0 ≡ 255) → goes_to w to.0 ≡ true → of_forward s d w from to ≡ None → Aside st (wire_taken st w from to room now)
    aside_wire (Cm frame) to room now c t g o = aside_cm frame to room now (ltb-true from.0 254 c) t g o
    aside_wire (Packet Tp number bytes) to room now c t g o = aside_packet to number bytes room now (ltb-true from.0 254 c) t o
    aside_wire (Packet Etp number bytes) to room now c t g o = its_session (ltb-true from.0 254 c) (of_other to _ (one_of to t g) o) session.Etp (Packet Etp number bytes) room now
    aside_wire (Request pgn) to room now c t g o = on_test (λ b. (to.0 == st.address.0) ≡ b → Aside st (quietly (cond b (queues st (answer st from pgn ∷ [])) st))) (to.0 == st.address.0)
        (λ _ e.
        let own : st.address.0 ≡ d.0 = ap (λ (x : Address). x.0) h.address in
        let n : from.0 ≡ s.0 → ⊥ = of_other to (Request pgn) (eqb-true to.0 st.address.0 e ∙ own) o in
        record { sessions = λ k. inr refl; frames = answer st from pgn ∷ []; queue = refl; none = ap (λ z. cons_option z []) (returns_ack_else s d laws.gives 1 from pgn st.address.0 255 (omega (arith, own, low_d)) (omega arith) n not_all_s); untold = refl })
        (λ _ _. in_none st) refl
    aside_wire (Ack control address pgn) to room now c t g o = either (λ x. Aside st (quietly x)) (address.0 == st.address.0 || to.0 == st.address.0) _ _
        (record { sessions = λ k. inr refl; frames = []; queue = sym (append-nil st.queue); none = refl; untold = refl }) (in_none st)

  pub looked : (st : Station) (f : CanFrame) → IsOwn d st → looks_at st f ≡ true → ((meaning_of f.id).to.0 ≡ d.0) ⊎ ((meaning_of f.id).to.0 ≡ 255)
  looked st f k y = by ((meaning_of f.id).to.0 == st.address.0) refl (Rattle.std.proofs.lemmas.Bool.and_parts (not ((meaning_of f.id).from.0 == st.address.0)) ((meaning_of f.id).to.0 == st.address.0 || (meaning_of f.id).to.0 == 255) y).1
    where
      by : (b : Bool) → ((meaning_of f.id).to.0 == st.address.0) ≡ b → (b || (meaning_of f.id).to.0 == 255) ≡ true → ((meaning_of f.id).to.0 ≡ d.0) ⊎ ((meaning_of f.id).to.0 ≡ 255)
      by true e q = inl (eqb-true (meaning_of f.id).to.0 st.address.0 e ∙ ap (λ (x : Address). x.0) k.address)
      by false e q = inr (eqb-true (meaning_of f.id).to.0 255 q)

  -- a frame that carries nothing
  pub takes_aside : (st : Station) (f : CanFrame) (room : Bool) (now : ℕ) → IsOwn d st → goes s d f ≡ None → Aside st (taken st f room now)
  takes_aside st f room now h o = on_test (λ b. looks_at st f ≡ b → Aside st (cond b (meaning_taken st (reading f) room now) (quietly st))) (looks_at st f)
      (λ _ y. by (reading f) refl o (looked st f h y)) (λ _ _. in_none st) refl
    where
      by : (m : Option Meaning) → reading f ≡ m → forward_of s d m ≡ None → ((meaning_of f.id).to.0 ≡ d.0) ⊎ ((meaning_of f.id).to.0 ≡ 255) → Aside st (meaning_taken st m room now)
      by None e c t = in_none st
      by (Some m) e c t =
          let x : IsRead f m = reading_tells f m e in
          aside_wire st h m.1 m.0 m.2 room now x.comes (subst (λ (a : Address). (a.0 ≡ d.0) ⊎ (a.0 ≡ 255)) (sym x.goal) t) x.goes c
