-- The sender's station takes a frame.
use Rattle.std.proofs.Common.{◌≡◌, ◌⊎◌, inl, inr, ℕ, ◌<◌, ◌==◌, Bool, true, false, cond, not, ◌&&◌, ◌||◌, List, [], ◌∷◌, ◌++◌, filter_map, Option, Some, None, refl, sym, ap, ◌∙◌, subst, arith, append-nil, eqb-true, eq-eqb, ltb-true}
use Rattle.std.specs.Prelude.{option_to_list}
use Rattle.std.specs.List.{cons_option}
use Rattle.std.specs.FinMap as finmap
use Rattle.std.proofs.lemmas.Bool.{eqb-false}
use Rattle.bus_frame.specs.Frames.{CanFrame}
use Rattle.pgn_ids.specs.Identifier.{meaning_of}
use Rattle.pgn_ids.specs.declared.address.Address.{Address}
use Rattle.tp_wire.specs.Reading.{reading}
use Rattle.tp_wire.specs.Reason.{reason_byte}
use Rattle.tp_wire.specs.Rows.{goes_to, comes_from}
use Rattle.tp_wire.specs.declared.constants.TheConstants.{ETP_MAX_WINDOW}
use Rattle.tp_wire.specs.declared.wire.Kind.{Kind}
use Rattle.tp_wire.specs.declared.wire.Kind.TheVariants.{Tp, Etp}
use Rattle.tp_wire.specs.declared.wire.CmFrame.{CmFrame}
use Rattle.tp_wire.specs.declared.wire.CmFrame.TheVariants.{Rts, Cts, EndOfMsgAck, Bam, Abort, EtpRts, EtpCts, EtpDpo, EtpEoma, EtpAbort}
use Rattle.tp_wire.specs.declared.wire.Wire.{Wire}
use Rattle.tp_wire.specs.declared.wire.Wire.TheVariants.{Cm, Packet, Request, Ack}
use Rattle.responder.specs.Answers.{abort_frame}
use Rattle.responder.specs.Unfinished.{Unfinished, begun}
use Rattle.responder.specs.Window.{most_of}
use Rattle.responder.specs.Asking.{asked}
use Rattle.responder.specs.Room.{first_join}
use Rattle.session_table.specs.Key.{session_for}
use Rattle.lane_core.specs.Lane.{Lane, new_lane}
use Rattle.lane_core.specs.Step.{nothing_to_do, LaneStep}
use Rattle.lane_core.specs.Hear.{heard}
use Rattle.lane_core.specs.Answer.{answered}
use Rattle.session_table.specs.declared.key.SessionKind.{SessionKind}
use Rattle.session_table.specs.declared.key.SessionKind.TheVariants as session
use Rattle.station_lanes.specs.Lanes.{Lanes}
use Rattle.station_lanes.specs.LaneCalls.{lane_to, stepped_lanes}
use Rattle.station_sessions.specs.Receiving.{received, flow_at, aborted_at}
use Rattle.station_core.specs.Station.{Station, StationStep, quietly, by_lane, by_session}
use Rattle.station_sessions.specs.Opening.{key_of, refusal, is_tp_size, is_etp_size, set_for, others_than, peer_of, rts_received, bam_received}
use Rattle.station_core.specs.Taking.{packet_kind, in_session, in_lane, abort_taken, cm_taken, answer, wire_taken, looks_at, meaning_taken, taken}
use Rattle.record_law.proofs.Maps.{lane_else, lane_here}
use Rattle.record_law.proofs.Segments.{same_address}
use Rattle.record_law.proofs.Tests.{on_test, either, by_option}
use Rattle.lane_law.specs.Lane as machine
use Rattle.broadcast_law.proofs.Carried.{Meaning, IsRead, reading_tells}
use Rattle.broadcast_law.proofs.LaneSteps.{IsLaneOf}
use Rattle.broadcast_law.proofs.Stations.{IsOwn}
use Rattle.connection_law.proofs.Frames.{BackEnd, BackAck, returns, return_of, of_return, goes_ack}
use Rattle.connection_law.proofs.LaneWires.{FitsOut, out_heard}
use Rattle.connection_law.proofs.SessionWires.{RepliesIn, aborted_in, asked_in}
use Rattle.connection_law.proofs.Sides.{said_elsewhere, replied_none}
use Rattle.connection_law.proofs.Replies.{replies_received}
use Rattle.connection_law.proofs.Tellings.{tells_received, telling_ended, outcome_elsewhere}
use Rattle.connection_law.proofs.Roles.{ended_in, sender_view, IsSenderOf, AsideOut, sender_aside, sender_lane}
use Rattle.connection_law.proofs.View.{Laws, IsPair, View, Sim, Still, still_same}
use Rattle.connection_law.proofs.Sender.{small_s}
use Rattle.connection_law.proofs.Hearing.{IsBack, hears_frame, is_answered}

module _ (laws : Laws) (s d : Address) (pair : IsPair s d) where
  low_s : s.0 < 256
  low_s = let l : s.0 < 254 = small_s laws s d pair in omega arith

  abbrev Aside : Station → StationStep → Type 0
  Aside st step = AsideOut laws s d pair st step

  pub out_none : (st : Station) → Aside st (quietly st)
  out_none st = record { lane = refl; frames = []; queue = sym (append-nil st.queue); none = refl; untold = refl }

  -- a session queues a reply
  out_session : (st : Station) (sessions : _) (from : ℕ) (frame : Option CanFrame) (events : List _) → from < 256 → RepliesIn s.0 from frame → ended_in s d events ≡ [] → Aside st (record { station = record st { queue = st.queue ++ option_to_list frame; sessions = sessions }; events = events })
  out_session st sessions from frame events l e u = record { lane = refl; frames = option_to_list frame; queue = refl; none = replied_none laws.gives s d s.0 from frame low_s l e; untold = u }

  -- the lane to somebody else makes a step
  pub out_lane : (st : Station) → IsOwn s st → (to : Address) (step : Lane → Lane × LaneStep) → (to.0 ≡ d.0 → ⊥) → ((lane : Lane) → IsLaneOf s.0 to.0 lane → FitsOut s.0 to.0 (step lane)) → Aside st (by_lane st to step)
  out_lane st h to step n fits = by (finmap.get st.lanes to.0) refl
    where
      after : Option Lane → StationStep
      after o = record {
        station = record st { queue = st.queue ++ (elim o as (λ (_ : Option Lane). LaneStep) [ None ↦ nothing_to_do | Some x ↦ (step x).1 ]).frames; lanes = elim o as (λ (_ : Option Lane). Lanes) [ None ↦ st.lanes | Some x ↦ finmap.insert st.lanes to.0 (step x).0 ] };
        events = Rattle.station_lanes.specs.LaneCalls.outcome_of st.address to (elim o as (λ (_ : Option Lane). LaneStep) [ None ↦ nothing_to_do | Some x ↦ (step x).1 ]).ended;
      }

      by : (o : Option Lane) → finmap.get st.lanes to.0 ≡ o → Aside st (after o)
      by None e = record { lane = refl; frames = []; queue = refl; none = refl; untold = refl }
      by (Some x) e =
          let k : IsLaneOf s.0 to.0 x = h.lanes to.0 x e in
          record {
            lane = ap (λ (o : Option Lane). elim o as (λ (_ : Option Lane). Lane) [ None ↦ new_lane s.0 d.0 | Some z ↦ z ]) (lane_else st.lanes to.0 d.0 (step x).0 (λ q. n (sym q)));
            frames = (step x).1.frames;
            queue = refl;
            none = said_elsewhere laws.gives s d s.0 to.0 (step x).1.frames low_s k.small n (fits x k).1;
            untold = outcome_elsewhere s d st.address to (step x).1.ended n;
          }

  module _ (v : View) (ahead : List CanFrame) (l : machine.Lane) where
    abbrev Goal : StationStep → Type 0
    Goal step = Still s d l (sender_view laws s d pair v ahead step)

    abbrev IsOf : Station → Type 0
    IsOf st = IsSenderOf laws s d pair v ahead st

    -- the sessions of a station are no part of this
    with_sessions : (st : Station) (sessions : _) → IsOf st → IsOf (record st { sessions = sessions })
    with_sessions st sessions h = record { lane = h.lane; forward = h.forward }

    aside : (st : Station) (step : StationStep) → IsOf st → Sim s d v l → Aside st step → Goal step
    aside st step is h k = sender_aside laws s d pair v ahead st step l is k (still_same s d l v h)

    -- a frame is heard in the lane to its source
    lane_hears : (st : Station) → IsOwn s st → IsOf st → Sim s d v l → (from : Address) → from.0 < 254 → (wire : Wire) (now : ℕ) → (from.0 ≡ d.0 → IsBack wire v.heard) → Goal (in_lane st from wire now)
    lane_hears st k is h from small wire now back = on_test (λ b. (from.0 == d.0) ≡ b → Goal (in_lane st from wire now)) (from.0 == d.0)
        (λ _ e.
        let q : from.0 ≡ d.0 = eqb-true from.0 d.0 e in
        subst (λ (x : Address). Goal (in_lane st x wire now)) (sym (same_address from d q))
        (sender_lane laws s d pair v ahead st (λ lane. heard lane wire now) l is k.address (still_same s d l v h) (hears_frame laws s d pair v l wire now h (back q))))
        (λ _ e. aside st (in_lane st from wire now) is h (out_lane st k from (λ lane. heard lane wire now) (eqb-false from.0 d.0 e) (λ lane z. out_heard s.0 from.0 lane wire now z))) refl

    abort_hears : (st : Station) → IsOwn s st → IsOf st → Sim s d v l → (from : Address) → from.0 < 254 → (kind : SessionKind) (pgn : ℕ) (wire : Wire) (now : ℕ) → (from.0 ≡ d.0 → IsBack wire v.heard) → Goal (abort_taken st from kind pgn wire now)
    abort_hears st k is h from small kind pgn wire now back =
        lane_hears (record st { sessions = aborted_at (key_of from kind) pgn st.sessions })
        (record { address = k.address; ports = k.ports; sessions = Rattle.broadcast_law.proofs.Receptions.each_aborted s st.ports k.ports.station (small_s laws s d pair) (key_of from kind) st.sessions k.sessions pgn; lanes = k.lanes; queue = k.queue })
        (with_sessions st (aborted_at (key_of from kind) pgn st.sessions) is) h from small wire now back

    module _ (st : Station) (k : IsOwn s st) (is : IsOf st) (h : Sim s d v l) (from : Address) (small : from.0 < 254) where
      low : from.0 < 256
      low = omega arith

      fits : (pgn : ℕ) → Rattle.broadcast_law.proofs.SessionSteps.FitsPeer s.0 from.0 (peer_of st.address from pgn)
      fits pgn = (ap (λ (x : Address). x.0) k.address, refl)

      rts : (kind : Kind) (is_size : Bool) (size most pgn : ℕ) (room : Bool) (now : ℕ) → Aside st (by_session st (rts_received st.address st.ports kind is_size from size most pgn room now st.sessions))
      rts kind is_size size most pgn room now =
          let m : Unfinished = begun kind (peer_of st.address from pgn) most (first_join kind size (flow_at st.ports (set_for st.ports pgn size))) in
          by_option (λ r. Aside st (by_session st r)) (refusal is_size room (set_for st.ports pgn size) (others_than st.sessions (key_of from (session_for kind)))) _ _
          (out_session st _ from.0 (Some (asked m (flow_at st.ports (set_for st.ports pgn size)))) [] low (asked_in s.0 from.0 m (flow_at st.ports (set_for st.ports pgn size)) (fits pgn)) refl)
          (λ reason. out_session st _ from.0 (Some (abort_frame kind (peer_of st.address from pgn) (reason_byte reason))) [] low (aborted_in s.0 from.0 kind (peer_of st.address from pgn) (reason_byte reason) (fits pgn)) refl)

      bam : (size packets pgn : ℕ) (room : Bool) (now : ℕ) → Aside st (by_session st (bam_received st.ports from size packets pgn room now st.sessions))
      bam size packets pgn room now = by_option (λ r. Aside st (by_session st r)) (refusal (is_tp_size size packets) room (set_for st.ports pgn size) (others_than st.sessions (key_of from session.Broadcast))) _ _
          (out_session st _ from.0 None [] low tt refl) (λ reason. out_session st _ from.0 None [] low tt refl)

      in_its_session : (kind : SessionKind) (wire : Wire) (room : Bool) (now : ℕ) → Aside st (in_session st (key_of from kind) wire room now)
      in_its_session kind wire room now = out_session st _ from.0 (received st.ports (key_of from kind) wire room now st.sessions).frame (received st.ports (key_of from kind) wire room now st.sessions).events low
          (replies_received s (key_of from kind) st.sessions st.ports k.sessions wire room now)
          (telling_ended s d s (key_of from kind) _ (tells_received s (key_of from kind) st.sessions st.ports k.ports.station k.sessions wire room now))

      hears_cm : (frame : CmFrame) (room : Bool) (now : ℕ) → (from.0 ≡ d.0 → IsBack (Cm frame) v.heard) → Goal (cm_taken st frame from room now)
      hears_cm (Rts size packets most pgn) room now back = aside st _ is h (rts Tp (is_tp_size size packets) size (most_of Tp most) pgn room now)
      hears_cm (Cts count next pgn) room now back = lane_hears st k is h from small (Cm (Cts count next pgn)) now back
      hears_cm (EndOfMsgAck size packets pgn) room now back = lane_hears st k is h from small (Cm (EndOfMsgAck size packets pgn)) now back
      hears_cm (Bam size packets pgn) room now back = aside st _ is h (bam size packets pgn room now)
      hears_cm (Abort reason pgn) room now back = abort_hears st k is h from small session.Tp pgn (Cm (Abort reason pgn)) now back
      hears_cm (EtpRts size pgn) room now back = aside st _ is h (rts Etp (is_etp_size size) size ETP_MAX_WINDOW pgn room now)
      hears_cm (EtpCts count next pgn) room now back = lane_hears st k is h from small (Cm (EtpCts count next pgn)) now back
      hears_cm (EtpDpo packets offset pgn) room now back = aside st _ is h (in_its_session session.Etp (Cm (EtpDpo packets offset pgn)) room now)
      hears_cm (EtpEoma size pgn) room now back = lane_hears st k is h from small (Cm (EtpEoma size pgn)) now back
      hears_cm (EtpAbort reason pgn) room now back = abort_hears st k is h from small session.Etp pgn (Cm (EtpAbort reason pgn)) now back

      -- an Acknowledgement
      settle : ℕ → Lane → Lane × LaneStep
      settle pgn lane = (answered lane pgn, nothing_to_do)

      answered_lane : (address to : Address) (pgn : ℕ) → (from.0 ≡ d.0 → v.heard ≡ BackAck pgn ∷ []) → Goal (quietly (record st { lanes = stepped_lanes st.lanes from.0 (λ lane. (answered lane pgn, nothing_to_do)) }))
      answered_lane address to pgn back = by (finmap.get st.lanes from.0) refl
        where
          after : Option Lane → StationStep
          after o = quietly (record st { lanes = elim o as (λ (_ : Option Lane). Lanes) [ None ↦ st.lanes | Some x ↦ finmap.insert st.lanes from.0 (answered x pgn) ] })

          lane_or : Option Lane → Lane
          lane_or o = elim o as (λ (_ : Option Lane). Lane) [ None ↦ new_lane s.0 d.0 | Some z ↦ z ]

          by : (o : Option Lane) → finmap.get st.lanes from.0 ≡ o → Goal (after o)
          by None e = aside st (after None) is h (record { lane = refl; frames = []; queue = sym (append-nil st.queue); none = refl; untold = refl })
          by (Some x) e = on_test (λ b. (from.0 == d.0) ≡ b → Goal (after (Some x))) (from.0 == d.0) (λ _ t. same (eqb-true from.0 d.0 t)) (λ _ t. other (eqb-false from.0 d.0 t)) refl
            where
              other : (from.0 ≡ d.0 → ⊥) → Goal (after (Some x))
              other n = aside st (after (Some x)) is h (record { lane = ap lane_or (lane_else st.lanes from.0 d.0 (answered x pgn) (λ q. n (sym q))); frames = []; queue = sym (append-nil st.queue); none = refl; untold = refl })

              same : from.0 ≡ d.0 → Goal (after (Some x))
              same q = subst (Still s d l) (sym (λ i. (let w : View = record v { lane = lane i; forward = sym is.forward i; ended = append-nil v.ended i } in w))) (is_answered laws s d pair v l pgn h (back q))
                where
                  x_is : v.lane ≡ x
                  x_is = is.lane ∙ ap (λ n. lane_or (finmap.get st.lanes n)) (sym q) ∙ ap lane_or e

                  lane : lane_to s (finmap.insert st.lanes from.0 (answered x pgn)) d.0 ≡ answered v.lane pgn
                  lane = ap (λ n. lane_or (finmap.get (finmap.insert st.lanes from.0 (answered x pgn)) n)) (sym q) ∙ ap lane_or (lane_here st.lanes from.0 (answered x pgn)) ∙ ap (λ z. answered z pgn) (sym x_is)

    -- what of the way back a frame carries that shows a wire
    back_is : (w : Wire) (from to : Address) → from.0 ≡ d.0 → goes_to w to.0 ≡ true → (to.0 ≡ s.0) ⊎ (to.0 ≡ 255) → v.heard ≡ cons_option (of_return s d w from to) [] → IsBack w v.heard
    back_is (Cm (Cts count next pgn)) from to q g t e = e
    back_is (Cm (EtpCts count next pgn)) from to q g t e = e
    back_is (Cm (EndOfMsgAck size packets pgn)) from to q g (inl t) e = e ∙ (λ i. cons_option (cond (eq-eqb from.0 d.0 q i && eq-eqb to.0 s.0 t i) (Some BackEnd) None) [])
    back_is (Cm (EndOfMsgAck size packets pgn)) from to q g (inr t) e = absurd (let l : to.0 < 254 = ltb-true to.0 254 g in omega (arith, l, t))
    back_is (Cm (EtpEoma size pgn)) from to q g (inl t) e = e ∙ (λ i. cons_option (cond (eq-eqb from.0 d.0 q i && eq-eqb to.0 s.0 t i) (Some BackEnd) None) [])
    back_is (Cm (EtpEoma size pgn)) from to q g (inr t) e = absurd (let l : to.0 < 254 = ltb-true to.0 254 g in omega (arith, l, t))
    back_is (Cm (Rts size packets most pgn)) from to q g t e = tt
    back_is (Cm (Bam size packets pgn)) from to q g t e = tt
    back_is (Cm (Abort reason pgn)) from to q g t e = tt
    back_is (Cm (EtpRts size pgn)) from to q g t e = tt
    back_is (Cm (EtpDpo packets offset pgn)) from to q g t e = tt
    back_is (Cm (EtpAbort reason pgn)) from to q g t e = tt
    back_is (Packet kind number bytes) from to q g t e = tt
    back_is (Request pgn) from to q g t e = tt
    back_is (Ack control address pgn) from to q g t e = tt

    hears_wire : (st : Station) → IsOwn s st → IsOf st → Sim s d v l → (w : Wire) (from to : Address) (room : Bool) (now : ℕ) → comes_from w from.0 ≡ true → goes_to w to.0 ≡ true → (to.0 ≡ s.0) ⊎ (to.0 ≡ 255) → v.heard ≡ cons_option (of_return s d w from to) [] → Goal (wire_taken st w from to room now)
    hears_wire st k is h (Cm frame) from to room now c g t e = hears_cm st k is h from (ltb-true from.0 254 c) frame room now (λ q. back_is (Cm frame) from to q g t e)
    hears_wire st k is h (Packet kind number bytes) from to room now c g t e = aside st _ is h (in_its_session st k is h from (ltb-true from.0 254 c) (packet_kind kind to) (Packet kind number bytes) room now)
    hears_wire st k is h (Request pgn) from to room now c g t e = aside st _ is h (either (λ x. Aside st (quietly x)) (to.0 == st.address.0) _ _
        (record { lane = refl; frames = answer st from pgn ∷ []; queue = refl; none = ap (λ o. cons_option o []) (goes_ack s d laws.gives 1 from pgn st.address.0 255 (let z : st.address.0 ≡ s.0 = ap (λ (x : Address). x.0) k.address in omega (arith, z, low_s)) (omega arith)); untold = refl })
        (out_none st))
    hears_wire st k is h (Ack control address pgn) from to room now c g t e = on_test (λ b. (address.0 == st.address.0 || to.0 == st.address.0) ≡ b → Goal (quietly (cond b (record st { lanes = stepped_lanes st.lanes from.0 (λ lane. (answered lane pgn, nothing_to_do)) }) st))) (address.0 == st.address.0 || to.0 == st.address.0)
        (λ _ y. answered_lane st k is h from (ltb-true from.0 254 c) address to pgn (λ q. e ∙ (λ i. cons_option (cond (eq-eqb from.0 d.0 q i && mine y i) (Some (BackAck pgn)) None) [])))
        (λ _ _. aside st _ is h (out_none st)) refl
      where
        mine : (address.0 == st.address.0 || to.0 == st.address.0) ≡ true → (address.0 == s.0 || to.0 == s.0) ≡ true
        mine y = ap (λ (x : Address). address.0 == x.0 || to.0 == x.0) (sym k.address) ∙ y

    looked : (st : Station) (f : CanFrame) → IsOwn s st → looks_at st f ≡ true → ((meaning_of f.id).to.0 ≡ s.0) ⊎ ((meaning_of f.id).to.0 ≡ 255)
    looked st f k y = by ((meaning_of f.id).to.0 == st.address.0) refl (Rattle.std.proofs.lemmas.Bool.and_parts (not ((meaning_of f.id).from.0 == st.address.0)) ((meaning_of f.id).to.0 == st.address.0 || (meaning_of f.id).to.0 == 255) y).1
      where
        by : (b : Bool) → ((meaning_of f.id).to.0 == st.address.0) ≡ b → (b || (meaning_of f.id).to.0 == 255) ≡ true → ((meaning_of f.id).to.0 ≡ s.0) ⊎ ((meaning_of f.id).to.0 ≡ 255)
        by true e q = inl (eqb-true (meaning_of f.id).to.0 st.address.0 e ∙ ap (λ (x : Address). x.0) k.address)
        by false e q = inr (eqb-true (meaning_of f.id).to.0 255 q)

    pub sender_takes : (st : Station) (f : CanFrame) (room : Bool) (now : ℕ) → IsOwn s st → IsOf st → Sim s d v l → v.heard ≡ filter_map (returns s d) (f ∷ []) → Goal (taken st f room now)
    sender_takes st f room now k is h e = on_test (λ b. looks_at st f ≡ b → Goal (cond b (meaning_taken st (reading f) room now) (quietly st))) (looks_at st f)
        (λ _ y. by (reading f) refl e (looked st f k y)) (λ _ _. aside st _ is h (out_none st)) refl
      where
        by : (o : Option Meaning) → reading f ≡ o → v.heard ≡ cons_option (return_of s d o) [] → ((meaning_of f.id).to.0 ≡ s.0) ⊎ ((meaning_of f.id).to.0 ≡ 255) → Goal (meaning_taken st o room now)
        by None r q t = aside st _ is h (out_none st)
        by (Some m) r q t =
            let x : IsRead f m = reading_tells f m r in
            hears_wire st k is h m.0 m.1 m.2 room now x.comes x.goes (subst (λ (a : Address). (a.0 ≡ s.0) ⊎ (a.0 ≡ 255)) (sym x.goal) t) q
