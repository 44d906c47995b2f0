-- The destination's station takes an RTS, a DPO or a packet from the sender to it.
use Rattle.std.proofs.Common.{◌≡◌, ℕ, ◌-◌, ◌<◌, ◌^◌, ◌==◌, Bool, true, false, cond, not, List, [], ◌++◌, length, Option, Some, None, refl, sym, ap, ◌∙◌, subst, arith, append-nil}
use Rattle.std.specs.Prelude.{nat_le}
use Rattle.std.proofs.lemmas.Bool.{eqb-false}
use Rattle.std.proofs.lemmas.Option.{none-some}
use Rattle.bus_frame.specs.Frames.{CanFrame}
use Rattle.pgn_ids.specs.declared.address.Address.{Address}
use Rattle.tp_wire.specs.Reason.{reason_byte}
use Rattle.tp_wire.specs.declared.reason.AbortReason.{AbortReason}
use Rattle.tp_wire.specs.declared.reason.AbortReason.TheVariants.{NoFurtherSession, Resources, Other}
use Rattle.tp_wire.specs.declared.constants.TheConstants.{ETP_MAX_WINDOW}
use Rattle.tp_wire.specs.declared.wire.Kind.{Kind}
use Rattle.tp_wire.specs.declared.wire.Kind.TheVariants.{Tp, Etp}
use Rattle.tp_wire.specs.declared.wire.CmFrame.TheVariants.{Rts, EtpRts, EtpDpo}
use Rattle.tp_wire.specs.declared.wire.Wire.TheVariants.{Cm, Packet}
use Rattle.responder.specs.Answers.{abort_frame}
use Rattle.responder.specs.Unfinished.{Unfinished, begun}
use Rattle.responder.specs.Window.{most_of}
use Rattle.responder.specs.Readers.{unfinished_of}
use Rattle.responder.specs.Asking.{asking, asked}
use Rattle.responder.specs.Steps.{stepped}
use Rattle.responder.specs.Room.{first_join, prepared}
use Rattle.responder.specs.declared.flow.Flow.{Flow}
use Rattle.responder.specs.declared.flow.Flow.TheVariants.{Open, Held}
use Rattle.responder.specs.declared.in_state.InState.{InState}
use Rattle.responder.specs.declared.received.Received.{Received}
use Rattle.session_table.specs.declared.TheConstants.{MAX_SESSIONS}
use Rattle.session_table.specs.declared.key.Key.{Key}
use Rattle.session_table.specs.declared.key.SessionKind.TheVariants as session
use Rattle.session_table.specs.declared.incoming.Incoming.{Incoming}
use Rattle.session_table.specs.declared.incoming.Incoming.TheVariants as incoming
use Rattle.session_table.specs.Sessions.{state_at}
use Rattle.session_table.specs.Key.{session_for}
use Rattle.station_sessions.specs.Receiving.{connection_settled, received_by, flow_at, Reception}
use Rattle.station_core.specs.Station.{Station, StationStep, by_session}
use Rattle.station_sessions.specs.Opening.{key_of, refusal, is_tp_size, is_etp_size, set_for, others_than, peer_of, rts_received}
use Rattle.station_sessions.specs.Receiving.{goes_on_at, ended_at}
use Rattle.station_core.specs.Taking.{in_session}
use Rattle.record_law.proofs.Lists.{each_get}
use Rattle.responder.proofs.Rows.{prepared_stays}
use Rattle.record_law.proofs.Tests.{on_test}
use Rattle.lane_law.specs.Choice.{IsChoice}
use Rattle.lane_law.specs.Session.{Session}
use Rattle.lane_law.specs.Stream.{IsOfReached}
use Rattle.lane_law.specs.Lane as machine
use Rattle.broadcast_law.proofs.Receptions.{no_broadcast}
use Rattle.broadcast_law.proofs.SessionSteps.{FitsPeer, peer_prepared}
use Rattle.broadcast_law.proofs.Stations.{IsOwn}
use Rattle.connection_law.proofs.SessionWires.{AsksIn, aborted_asks, Replies, connection_step, asked_of}
use Rattle.connection_law.proofs.Sides.{asked_none}
use Rattle.connection_law.proofs.Roles.{station_told, numbers_at, receiver_view, IsReceiverOf}
use Rattle.connection_law.proofs.View.{Laws, IsPair, Mark, View, kind_of, IsHeardAs, IsSame, IsAlmost, IsGood, of_kind, Carries, Sim, Still, Next, next_still}
use Rattle.connection_law.proofs.Sender.{small_s, small_d}
use Rattle.connection_law.proofs.Moves.{IsPlain, Taken, carries_else}
use Rattle.connection_law.proofs.Follows.{Left, Goes, Whole, Gone, left_by, Follows, Keeps, packet_follows, dpo_keeps, same_prepared, almost_prepared}
use Rattle.connection_law.proofs.Receiver.{Real, with_kind, marked, mark_of, ports_of, settled_view, opens_tp, opens_etp, refuses_tp, refuses_etp, ShowsPacket, packet_shown, ShowsDpo}
use Rattle.connection_law.proofs.Packets.{packet_heard, packet_unheard, dpo_heard, dpo_unheard}
use Rattle.connection_law.proofs.HearsIn.{answers_are, shows_put, shows_drop, IsFine, shows_step, tells_step}

-- where a session opens there are ports for it
refusal_some : (is_size room : Bool) (set : List ℕ) (others : ℕ) → refusal is_size room set others ≡ None → 0 < length set
refusal_some is_size room set others e = on_test (λ b. (length set == 0) ≡ b → cond {A = Option AbortReason} (not is_size) (Some Other) (cond b (Some Resources) (cond (nat_le MAX_SESSIONS others) (Some NoFurtherSession) (cond (not room) (Some Resources) None))) ≡ None → 0 < length set) (length set == 0)
    (λ _ t q. absurd (refused is_size q))
    (λ _ t q. let n : length set ≡ 0 → ⊥ = eqb-false (length set) 0 t in some (length set) n) refl e
  where
    some : (n : ℕ) → (n ≡ 0 → ⊥) → 0 < n
    some n q = omega arith

    refused : (b : Bool) → cond {A = Option AbortReason} (not b) (Some Other) (Some Resources) ≡ None → ⊥
    refused true q = none-some Resources (sym q)
    refused false q = none-some Other (sym q)

module _ (laws : Laws) (choose : machine.OnEachLane (λ lane. IsChoice lane.stream.given lane.stream.sent)) (s d : Address) (pair : IsPair s d) where
  low_s : s.0 < 256
  low_s = let l : s.0 < 254 = small_s laws s d pair in omega arith

  low_d : d.0 < 256
  low_d = let l : d.0 < 254 = small_d laws s d pair in omega arith

  abbrev own_key : Kind → Key
  own_key k = key_of s (session_for k)

  module _ (v : View) (behind : List CanFrame) (l : machine.Lane) (st : Station) (h : IsOwn d st) (is : IsReceiverOf laws s d pair v behind st) where
    abbrev pub shown : StationStep → View
    shown step = receiver_view laws s d pair v behind step

    -- a step that gives so goes on
    abbrev pub Goal : StationStep → Type 0
    Goal step = Next s d (numbers_at (station_told d s d step.events)) l (shown step)

    goal_is : (step : StationStep) (ports : List ℕ) (w : View) → numbers_at (station_told d s d step.events) ≡ ports → shown step ≡ w → Next s d ports l w → Goal step
    goal_is step ports w e q h = subst (λ ts. Next s d ts l (shown step)) (sym e) (subst (Next s d ports l) (sym q) h)

    step_goal : (kind : Kind) (set : List ℕ) (room : Bool) → 0 < length set → (r : Received) → Replies d.0 s.0 r → IsFine laws choose s d pair v behind l st h is (left_by r) → Next s d (ports_of set room (left_by r)) l (settled_view v kind set room (left_by r)) → Goal (by_session st (connection_settled st.ports.station (own_key kind) set room st.sessions r))
    step_goal kind set room some r a f h' = goal_is (by_session st (connection_settled st.ports.station (own_key kind) set room st.sessions r)) (ports_of set room (left_by r)) (settled_view v kind set room (left_by r))
        (tells_step laws choose s d pair v behind l st h is kind set room r a) (shows_step laws choose s d pair v behind l st h is kind set room some r a f) h'

    pgn_small : (lane : machine.Lane) (x : Session) → Carries s d v lane → lane.stream.session ≡ Some x → x.pgn < 2 ^ 18
    pgn_small lane x c e =
        let r : IsOfReached lane.stream x = laws.session true lane c.reached x e in
        let g : IsGood lane.stream.reached.message = each_get IsGood lane.stream.sent (lane.stream.reached.number - 1) lane.stream.reached.message r.was_sent.1 c.good in
        subst (λ n. n < 2 ^ 18) (sym r.pgn) g.pgn

    fine_whole : (x : Session) (k : ℕ) (bytes : List ℕ) (left : Left) → x.pgn < 2 ^ 18 → Follows s d x k bytes left → IsFine laws choose s d pair v behind l st h is left
    fine_whole x k bytes (Goes i) p f = tt
    fine_whole x k bytes (Whole m) p f = subst (λ n. n < 2 ^ 18) (sym f.2.peer.pgn) p
    fine_whole x k bytes Gone p f = tt

    fine_kept : (x : Session) (left : Left) → Keeps s d x left → IsFine laws choose s d pair v behind l st h is left
    fine_kept x (Goes i) f = tt
    fine_kept x (Whole m) f = absurd f
    fine_kept x Gone f = tt

    some_ports : (R : Incoming → Session → Type 0) (opened : Mark) (set : List ℕ) (i : Incoming) (o : Option Session) → IsHeardAs R opened (Some (set, i)) o → (x : Session) × (o ≡ Some x) × (0 < length set) × R i x
    some_ports R opened set i None q = absurd q
    some_ports R opened set i (Some x) q = (x, refl, q.0, q.2)

    packet_open : (kind : Kind) (k : ℕ) (bytes : List ℕ) (t : Taken laws s d l v (Packet kind k bytes)) (set : List ℕ) (i : Incoming) → of_kind kind v.tp v.etp ≡ Some (set, i) → (x : Session) × (t.lane.stream.session ≡ Some x) × (0 < length set) × IsSame s d i x
    packet_open kind k bytes t set i e =
        let p : ShowsPacket t.lane.stream.reached t.frame kind k bytes = packet_shown t.lane.stream.reached t.frame kind k bytes t.shows in
        some_ports (IsSame s d) (v.opened kind) set i t.lane.stream.session
        (subst (λ o. IsHeardAs (IsSame s d) (v.opened kind) o t.lane.stream.session) e (subst (λ q. IsHeardAs (IsSame s d) (v.opened q) (of_kind q v.tp v.etp) t.lane.stream.session) p.kind_is (t.heard (subst IsPlain (sym p.frame) tt))))

    abbrev none : StationStep
    none = record { station = record st { queue = st.queue ++ [] }; events = [] }

    same : shown none ≡ v
    same = λ i. (let w : View = record v { tp = sym is.tp i; etp = sym is.etp i; answers = (answers_are laws choose s d pair v behind l st h is None [] refl ∙ append-nil v.answers) i; given = append-nil v.given i } in w)

    real : (kind : Kind) → of_kind kind v.tp v.etp ≡ state_at st.sessions (own_key kind)
    real Tp = is.tp
    real Etp = is.etp

    -- A packet

    pub packet : (kind : Kind) (k : ℕ) (bytes : List ℕ) (room : Bool) (now : ℕ) → Taken laws s d l v (Packet kind k bytes) → Goal (in_session st (own_key kind) (Packet kind k bytes) room now)
    packet kind k bytes room now t = by (state_at st.sessions (own_key kind)) refl
      where
        by : (o : Option (List ℕ × Incoming)) → state_at st.sessions (own_key kind) ≡ o → Goal (by_session st (received_by o st.ports (own_key kind) (Packet kind k bytes) room now st.sessions))
        by None e = subst (Next s d [] l) (sym same) (next_still s d l v (packet_unheard laws choose s d v l kind k bytes t))
        by (Some (set, incoming.Broadcast b)) e = absurd (no_broadcast kind (sym (h.sessions (own_key kind) (set, incoming.Broadcast b) e).state.1))
        by (Some (set, incoming.Connection u)) e =
            let flow : Flow = flow_at st.ports set in
            let p : InState = prepared u (Packet kind k bytes) room flow in
            let r : Received = stepped p (Packet kind k bytes) room flow now in
            let q : (x : Session) × (t.lane.stream.session ≡ Some x) × (0 < length set) × IsSame s d (incoming.Connection u) x = packet_open kind k bytes t set (incoming.Connection u) (real kind ∙ e) in
            let f : Follows s d q.0 k bytes (left_by r) = packet_follows s d q.0 k bytes p kind room flow now (same_prepared s d u (Packet kind k bytes) room flow q.0 q.3) in
            let a : Replies d.0 s.0 r = connection_step d.0 s.0 p (Packet kind k bytes) room flow now (peer_prepared d.0 s.0 u (Packet kind k bytes) room flow (h.sessions (own_key kind) (set, incoming.Connection u) e).state.0) in
            step_goal kind set room q.2 r a (fine_whole q.0 k bytes (left_by r) (pgn_small t.lane q.0 t.carries q.1) f)
            (packet_heard laws choose s d v l kind k bytes t set (incoming.Connection u) (real kind ∙ e) (left_by r) room (λ x z. packet_follows s d x k bytes p kind room flow now (same_prepared s d u (Packet kind k bytes) room flow x z)))

    -- A DPO

    etp_session : (kind : Kind) → session.Etp ≡ session_for kind → kind ≡ Etp
    etp_session Tp e = absurd (cc)
    etp_session Etp e = refl

    pub dpo : (packets offset pgn : ℕ) (room : Bool) (now : ℕ) → Taken laws s d l v (Cm (EtpDpo packets offset pgn)) → Goal (in_session st (own_key Etp) (Cm (EtpDpo packets offset pgn)) room now)
    dpo packets offset pgn room now t = by (state_at st.sessions (own_key Etp)) refl
      where
        by : (o : Option (List ℕ × Incoming)) → state_at st.sessions (own_key Etp) ≡ o → Goal (by_session st (received_by o st.ports (own_key Etp) (Cm (EtpDpo packets offset pgn)) room now st.sessions))
        by None e = subst (Next s d [] l) (sym same) (next_still s d l v (dpo_unheard laws choose s d v l packets offset pgn t (is.etp ∙ e)))
        by (Some (set, incoming.Broadcast b)) e = absurd (no_broadcast Etp (sym (h.sessions (own_key Etp) (set, incoming.Broadcast b) e).state.1))
        by (Some (set, incoming.Connection u)) e =
            let flow : Flow = flow_at st.ports set in
            let p : InState = prepared u (Cm (EtpDpo packets offset pgn)) room flow in
            let r : Received = stepped p (Cm (EtpDpo packets offset pgn)) room flow now in
            let sh : ShowsDpo t.lane.stream.reached t.frame offset pgn = Rattle.connection_law.proofs.Receiver.dpo_shown t.lane.stream.reached t.frame packets offset pgn t.shows in
            let q : (x : Session) × (t.lane.stream.session ≡ Some x) × (0 < length set) × IsAlmost s d (incoming.Connection u) x = some_ports (IsAlmost s d) (v.opened Etp) set (incoming.Connection u) t.lane.stream.session
            (subst (λ o. IsHeardAs (IsAlmost s d) (v.opened Etp) o t.lane.stream.session) (is.etp ∙ e) (subst (λ k. IsHeardAs (IsAlmost s d) (v.opened k) (of_kind k v.tp v.etp) t.lane.stream.session) sh.kind_is (t.offset offset sh.frame))) in
            let of_it : IsOfReached t.lane.stream q.0 = laws.session true t.lane t.carries.reached q.0 q.1 in
            let state = (h.sessions (own_key Etp) (set, incoming.Connection u) e).state in
            let etp : (unfinished_of p).kind ≡ Etp = prepared_stays u (Cm (EtpDpo packets offset pgn)) room flow ∙ etp_session (unfinished_of u).kind state.1 in
            let f : Keeps s d q.0 (left_by r) = dpo_keeps s d q.0 p packets offset pgn room flow now etp (almost_prepared s d u (Cm (EtpDpo packets offset pgn)) room flow q.0 q.3) (sym sh.offset_is ∙ sym of_it.offset) (sh.pgn_is ∙ sym of_it.pgn) in
            let a : Replies d.0 s.0 r = connection_step d.0 s.0 p (Cm (EtpDpo packets offset pgn)) room flow now (peer_prepared d.0 s.0 u (Cm (EtpDpo packets offset pgn)) room flow state.0) in
            step_goal Etp set room q.2 r a (fine_kept q.0 (left_by r) f)
            (dpo_heard laws choose s d v l packets offset pgn t set (incoming.Connection u) (is.etp ∙ e) (left_by r) room (λ x z o g. dpo_keeps s d x p packets offset pgn room flow now etp (almost_prepared s d u (Cm (EtpDpo packets offset pgn)) room flow x z) o g))

    -- An RTS

    opened_else : (w : View) (kind : Kind) (n : Mark) (m : machine.Lane) → of_kind kind w.tp w.etp ≡ None → Sim s d w m → Sim s d (record w { opened = marked kind n w.opened }) m
    opened_else w kind n m e g = record { carries = carries_else laws s d w m w.tp w.etp (marked kind n w.opened) g.carries; session = by kind (kind_of m.stream.reached.message) e g.session }
      where
        by : (a b : Kind) → of_kind a w.tp w.etp ≡ None → IsHeardAs (IsSame s d) (w.opened b) (of_kind b w.tp w.etp) m.stream.session → IsHeardAs (IsSame s d) (marked a n w.opened b) (of_kind b w.tp w.etp) m.stream.session
        by Tp Tp e q = gone m.stream.session (w.opened Tp) w.tp e q
          where
            gone : (o : Option Session) (old : Mark) (r : Real) → r ≡ None → IsHeardAs (IsSame s d) old r o → IsHeardAs (IsSame s d) n r o
            gone None old None e q = tt
            gone (Some x) old None e q = q
            gone o old (Some r) e q = absurd (none-some r (sym e))
        by Etp Etp e q = gone m.stream.session (w.opened Etp) w.etp e q
          where
            gone : (o : Option Session) (old : Mark) (r : Real) → r ≡ None → IsHeardAs (IsSame s d) old r o → IsHeardAs (IsSame s d) n r o
            gone None old None e q = tt
            gone (Some x) old None e q = q
            gone o old (Some r) e q = absurd (none-some r (sym e))
        by Tp Etp e q = q
        by Etp Tp e q = q

    abbrev mark : (pgn size : ℕ) → Mark
    mark pgn size = mark_of (length v.sent) pgn size (set_for st.ports pgn size)

    abbrev pub Opens : Kind → (pgn size : ℕ) → StationStep → Type 0
    Opens kind pgn size step = Next s d (numbers_at (station_told d s d step.events)) l (record (shown step) { opened = marked kind (mark pgn size) v.opened })

    pub own : st.address.0 ≡ d.0
    own = ap (λ (x : Address). x.0) h.address

    peer_is : (pgn : ℕ) → peer_of st.address s pgn ≡ record { from = s.0; to = d.0; pgn = pgn }
    peer_is pgn = λ i. record { from = s.0; to = own i; pgn = pgn }

    fits : (pgn : ℕ) → FitsPeer d.0 s.0 (peer_of st.address s pgn)
    fits pgn = (own, refl)

    pub none_more : (kind : Kind) (x : Real) → record (with_kind kind x v) { answers = v.answers ++ []; given = v.given ++ [] } ≡ with_kind kind x v
    none_more kind x = λ i. (let w : View = record (with_kind kind x v) { answers = append-nil v.answers i; given = append-nil v.given i } in w)

    opening : (kind : Kind) (pgn size : ℕ) (set : List ℕ) (state : Incoming) (frame : Option CanFrame) → AsksIn d.0 s.0 frame → Still s d l (record (with_kind kind (Some (set, state)) v) { opened = marked kind (mark pgn size) v.opened }) → Opens kind pgn size (by_session st (goes_on_at (own_key kind) set st.sessions state frame))
    opening kind pgn size set state frame a q = next_still s d l _ (subst (λ (w : View). Still s d l (record w { opened = marked kind (mark pgn size) v.opened })) (sym (shows_put laws choose s d pair v behind l st h is kind (set, state) frame a ∙ none_more kind (Some (set, state)))) q)

    refusing : (kind : Kind) (pgn size : ℕ) (frame : Option CanFrame) → AsksIn d.0 s.0 frame → Still s d l (with_kind kind None v) → Opens kind pgn size (by_session st (ended_at (own_key kind) st.sessions frame))
    refusing kind pgn size frame a q = next_still s d l _ (subst (λ (w : View). Still s d l (record w { opened = marked kind (mark pgn size) v.opened })) (sym (shows_drop laws choose s d pair v behind l st h is kind frame [] [] [] (asked_none laws.gives s d d.0 s.0 frame low_d low_s a) refl ∙ none_more kind None))
        (record { lane = q.lane; sim = opened_else (with_kind kind None v) kind (mark pgn size) q.lane (Rattle.connection_law.proofs.Receiver.of_kind_with kind None v.tp v.etp) q.sim; given = q.given }))

    -- what a session begins with
    record Begins (u : InState) (pgn size : ℕ) : Type 0 where
      peer : (unfinished_of u).peer ≡ record { from = s.0; to = d.0; pgn = pgn }
      size_is : (unfinished_of u).join.size ≡ size
      next : (unfinished_of u).join.next ≡ 1
      bytes : (unfinished_of u).join.bytes ≡ []
      offset : (unfinished_of u).offset ≡ 0

    begins : (kind : Kind) (pgn size most : ℕ) (join_flow flow : Flow) (now : ℕ) → Begins (asking (begun kind (peer_of st.address s pgn) most (first_join kind size join_flow)) flow now) pgn size
    begins kind pgn size most join_flow Open now = record { peer = peer_is pgn; size_is = refl; next = refl; bytes = refl; offset = refl }
    begins kind pgn size most join_flow Held now = record { peer = peer_is pgn; size_is = refl; next = refl; bytes = refl; offset = refl }

    asked_for : (kind : Kind) (is_size : Bool) (size most pgn : ℕ) (room : Bool) (now : ℕ)
        → ((u : InState) → Begins u pgn size → 0 < length (set_for st.ports pgn size) → Still s d l (record (with_kind kind (Some (set_for st.ports pgn size, incoming.Connection u)) v) { opened = marked kind (mark pgn size) v.opened }))
        → Still s d l (with_kind kind None v) → Opens kind pgn size (by_session st (rts_received st.address st.ports kind is_size s size most pgn room now st.sessions))
    asked_for kind is_size size most pgn room now opens refuses = by (refusal is_size room (set_for st.ports pgn size) (others_than st.sessions (own_key kind))) refl
      where
        flow : Flow
        flow = flow_at st.ports (set_for st.ports pgn size)

        m : Unfinished
        m = begun kind (peer_of st.address s pgn) most (first_join kind size flow)

        after : Option AbortReason → StationStep
        after o = by_session st (elim o as (λ (_ : Option AbortReason). Reception) [ None ↦ goes_on_at (own_key kind) (set_for st.ports pgn size) st.sessions (incoming.Connection (asking m flow now)) (Some (asked m flow)) | Some reason ↦ ended_at (own_key kind) st.sessions (Some (abort_frame kind (peer_of st.address s pgn) (reason_byte reason))) ])

        by : (o : Option AbortReason) → refusal is_size room (set_for st.ports pgn size) (others_than st.sessions (own_key kind)) ≡ o → Opens kind pgn size (after o)
        by None e = opening kind pgn size (set_for st.ports pgn size) _ (Some (asked m flow)) (asked_of d.0 s.0 m flow (fits pgn))
            (opens (asking m flow now) (begins kind pgn size most flow flow now) (refusal_some is_size room (set_for st.ports pgn size) (others_than st.sessions (own_key kind)) e))
        by (Some reason) e = refusing kind pgn size (Some (abort_frame kind (peer_of st.address s pgn) (reason_byte reason))) (aborted_asks d.0 s.0 kind (peer_of st.address s pgn) _ (fits pgn)) refuses

    pub rts : (size packets most pgn : ℕ) (room : Bool) (now : ℕ) → Taken laws s d l v (Cm (Rts size packets most pgn)) → Opens Tp pgn size (by_session st (rts_received st.address st.ports Tp (is_tp_size size packets) s size (most_of Tp most) pgn room now st.sessions))
    rts size packets most pgn room now t = asked_for Tp (is_tp_size size packets) size (most_of Tp most) pgn room now
        (λ u b some. opens_tp laws choose s d v l size packets most pgn (set_for st.ports pgn size) u t some b.peer b.size_is b.next b.bytes b.offset) (refuses_tp laws choose s d v l size packets most pgn t)

    pub etp_rts : (size pgn : ℕ) (room : Bool) (now : ℕ) → Taken laws s d l v (Cm (EtpRts size pgn)) → Opens Etp pgn size (by_session st (rts_received st.address st.ports Etp (is_etp_size size) s size ETP_MAX_WINDOW pgn room now st.sessions))
    etp_rts size pgn room now t = asked_for Etp (is_etp_size size) size ETP_MAX_WINDOW pgn room now
        (λ u b some. opens_etp laws choose s d v l size pgn (set_for st.ports pgn size) u t some b.peer b.size_is b.next b.bytes b.offset) (refuses_etp laws choose s d v l size pgn t)
