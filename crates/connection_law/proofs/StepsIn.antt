-- The destination's station pumps, cancels, sends, fires a timer, or closes a port.
use Rattle.std.proofs.Common.{◌≡◌, ◌⊎◌, inl, inr, ℕ, ◌<◌, ◌==◌, true, List, [], ◌++◌, filter_map, Option, Some, None, refl, sym, ap, ◌∙◌, subst, arith, append-nil}
use Rattle.std.specs.Prelude.{option_to_list}
use Rattle.bus_frame.specs.Frames.{CanFrame}
use Rattle.pgn_ids.specs.declared.address.Address.{Address}
use Rattle.tp_wire.specs.declared.wire.Kind.{Kind}
use Rattle.tp_wire.specs.declared.wire.Kind.TheVariants.{Tp, Etp}
use Rattle.responder.specs.Readers.{unfinished_of}
use Rattle.responder.specs.Steps.{expired}
use Rattle.responder.specs.Room.{prepared_to_expire}
use Rattle.responder.specs.declared.in_state.InState.{InState}
use Rattle.responder.specs.declared.received.Received.{Received}
use Rattle.responder.specs.declared.received.Received.TheVariants.{On, Complete, Ended}
use Rattle.responder.specs.declared.flow.Flow.{Flow}
use Rattle.port_table.specs.Ports.{Ports}
use Rattle.lane_core.specs.Pump as lane-pump
use Rattle.lane_core.specs.Fire as lane-fire
use Rattle.lane_core.specs.Cancel as lane-cancel
use Rattle.session_table.specs.declared.key.Key.{Key}
use Rattle.session_table.specs.declared.key.SessionKind.{SessionKind}
use Rattle.session_table.specs.declared.key.SessionKind.TheVariants as session
use Rattle.session_table.specs.declared.incoming.Incoming.{Incoming}
use Rattle.session_table.specs.declared.incoming.Incoming.TheVariants as incoming
use Rattle.session_table.specs.Sessions.{state_at}
use Rattle.session_table.specs.DueOrder.{first_due}
use Rattle.session_table.specs.Key.{session_for}
use Rattle.station_lanes.specs.LaneReaders.{due_lane}
use Rattle.station_sessions.specs.Receiving.{connection_settled, flow_at, fired_at, fired_by}
use Rattle.station_core.specs.Station.{Station, StationStep, quietly, by_session}
use Rattle.station_sessions.specs.Opening.{key_of}
use Rattle.station_core.specs.Sending.{pumped, cancelled, sent}
use Rattle.station_core.specs.Timers.{lane_fired, fired}
use Rattle.record_law.proofs.Maps.{key_cases}
use Rattle.responder.proofs.Rows.{by_timer}
use Rattle.record_law.proofs.Tests.{on_test}
use Rattle.lane_law.specs.Choice.{IsChoice}
use Rattle.lane_law.specs.Session.{Session}
use Rattle.lane_law.specs.Lane as machine
use Rattle.broadcast_law.proofs.Receptions.{no_broadcast}
use Rattle.broadcast_law.proofs.SessionSteps.{peer_prepared_fire}
use Rattle.broadcast_law.proofs.Stations.{IsOwn}
use Rattle.connection_law.proofs.Frames.{returns}
use Rattle.connection_law.proofs.LaneWires.{out_pumped, out_cancelled, out_fired}
use Rattle.connection_law.proofs.SessionWires.{RepliesIn, Replies, connection_expired}
use Rattle.connection_law.proofs.Sides.{asked_none, replied_elsewhere}
use Rattle.connection_law.proofs.Replies.{replies_fired}
use Rattle.connection_law.proofs.Others.{fired_same}
use Rattle.connection_law.proofs.Tellings.{tells_fired, telling_foreign, telling_broadcast}
use Rattle.connection_law.proofs.Roles.{station_told, receiver_view, IsReceiverOf, AsideIn, receiver_aside}
use Rattle.connection_law.proofs.View.{Laws, IsPair, Mark, View, kind_of, IsHeardAs, IsSame, of_kind, Sim, Still}
use Rattle.connection_law.proofs.Sender.{small_s, small_d}
use Rattle.connection_law.proofs.Moves.{carries_else, ends}
use Rattle.connection_law.proofs.Follows.{Left, Goes, Whole, Gone, left_by, Keeps, connection_fired}
use Rattle.connection_law.proofs.Receiver.{tp_with, etp_with, with_kind, of_kind_with, left_of}
use Rattle.connection_law.proofs.HearsIn.{shows_put, shows_drop}
use Rattle.connection_law.proofs.HearsRows.{none_more}
use Rattle.connection_law.proofs.TakesIn.{in_none, in_lane_step}

module _ (laws : Laws) (choose : machine.OnEachLane (λ lane. IsChoice lane.stream.given lane.stream.sent)) (s d : Address) (pair : IsPair s d) where
  low_s : s.0 < 256
  low_s = let l : s.0 < 254 = small_s laws s d pair in omega arith

  low_d : d.0 < 256
  low_d = let l : d.0 < 254 = small_d laws s d pair in omega arith

  abbrev Aside : Station → StationStep → Type 0
  Aside st step = AsideIn laws s d pair st step

  abbrev own_key : Kind → Key
  own_key k = key_of s (session_for k)

  pub in_ports : (st : Station) (ports : Ports) → Aside st (quietly (record st { ports = ports }))
  in_ports st ports = record { sessions = λ k. inr refl; frames = []; queue = sym (append-nil st.queue); none = refl; untold = refl }

  pub in_pumps : (st : Station) → IsOwn d st → (to : Address) (now : ℕ) → Aside st (pumped st to now)
  in_pumps st h to now = in_lane_step laws s d pair st h to (λ x. lane-pump.pumped x now) (λ x z. out_pumped d.0 to.0 x now z)

  pub in_cancels : (st : Station) → IsOwn d st → (to : Address) (number : ℕ) → Aside st (cancelled st to number)
  in_cancels st h to number = in_lane_step laws s d pair st h to (λ x. lane-cancel.cancelled x number) (λ x z. out_cancelled d.0 to.0 x number z)

  pub in_sends : (st : Station) (to : Address) (pgn : ℕ) (bytes : List ℕ) → Aside st (quietly (sent st to pgn bytes))
  in_sends st to pgn bytes = record { sessions = λ k. inr refl; frames = []; queue = sym (append-nil st.queue); none = refl; untold = refl }

  -- A timer fires

  -- the session of a kind goes on as what it was, or ends
  pub renews : (v : View) (l : machine.Lane) (kind : Kind) (set : List ℕ) (i : Incoming) (left : Left) → Sim s d v l → of_kind kind v.tp v.etp ≡ Some (set, i) → ((x : Session) → IsSame s d i x → Keeps s d x left) → Still s d l (with_kind kind (left_of set left) v)
  renews v l kind set i left h e keep = by kind (kind_of l.stream.reached.message) refl e refl
    where
      new : View
      new = with_kind kind (left_of set left) v

      c : Rattle.connection_law.proofs.View.Carries s d new l
      c = carries_else laws s d v l (tp_with kind (left_of set left) v.tp) (etp_with kind (left_of set left) v.etp) v.opened h.carries

      of_left : (opened : Mark) (o : Option Session) (g : Left) → ((x : Session) → IsSame s d i x → Keeps s d x g) → IsHeardAs (IsSame s d) opened (Some (set, i)) o → (left_of set g ≡ None) ⊎ IsHeardAs (IsSame s d) opened (left_of set g) o
      of_left opened None g k q = absurd q
      of_left opened (Some x) (Goes j) k q = inr (q.0, q.1, k x q.2)
      of_left opened (Some x) (Whole m) k q = absurd (k x q.2)
      of_left opened (Some x) Gone k q = inl refl

      same : kind ≡ kind_of l.stream.reached.message → Still s d l new
      same q = ended_or (of_left (v.opened kind) l.stream.session left keep (subst (λ o. IsHeardAs (IsSame s d) (v.opened kind) o l.stream.session) e (subst (λ k. IsHeardAs (IsSame s d) (v.opened k) (of_kind k v.tp v.etp) l.stream.session) (sym q) h.session)))
        where
          ended_or : (left_of set left ≡ None) ⊎ IsHeardAs (IsSame s d) (v.opened kind) (left_of set left) l.stream.session → Still s d l new
          ended_or (inl n) = ends laws s d new l c (ap (λ k. of_kind k (tp_with kind (left_of set left) v.tp) (etp_with kind (left_of set left) v.etp)) (sym q) ∙ of_kind_with kind (left_of set left) v.tp v.etp ∙ n)
          ended_or (inr r) = record {
            lane = l;
            sim = record {
              carries = c;
              session = subst (λ k. IsHeardAs (IsSame s d) (v.opened k) (of_kind k (tp_with kind (left_of set left) v.tp) (etp_with kind (left_of set left) v.etp)) l.stream.session) q
                  (subst (λ o. IsHeardAs (IsSame s d) (v.opened kind) o l.stream.session) (sym (of_kind_with kind (left_of set left) v.tp v.etp)) r);
            };
            given = refl;
          }

      other : (a b : Kind) → kind ≡ a → kind_of l.stream.reached.message ≡ b → of_kind b (tp_with a (left_of set left) v.tp) (etp_with a (left_of set left) v.etp) ≡ of_kind b v.tp v.etp → Still s d l new
      other a b p q r = record {
        lane = l;
        sim = record {
          carries = c;
          session = subst (λ o. IsHeardAs (IsSame s d) (v.opened (kind_of l.stream.reached.message)) o l.stream.session)
              (sym ((λ i. of_kind (q i) (tp_with (p i) (left_of set left) v.tp) (etp_with (p i) (left_of set left) v.etp)) ∙ r ∙ ap (λ k. of_kind k v.tp v.etp) (sym q))) h.session;
        };
        given = refl;
      }

      by : (a b : Kind) → kind_of l.stream.reached.message ≡ b → of_kind a v.tp v.etp ≡ Some (set, i) → kind ≡ a → Still s d l new
      by Tp Tp q r p = same (p ∙ sym q)
      by Etp Etp q r p = same (p ∙ sym q)
      by Tp Etp q r p = other Tp Etp p q refl
      by Etp Tp q r p = other Etp Tp p q refl

  module _ (v : View) (behind : List CanFrame) (l : machine.Lane) (st : Station) (h : IsOwn d st) (is : IsReceiverOf laws s d pair v behind st) (g : Sim s d v l) where
    abbrev Goal : StationStep → Type 0
    Goal step = Still s d l (receiver_view laws s d pair v behind step)

    pub aside : (step : StationStep) → Aside st step → Goal step
    aside step x = receiver_aside laws s d pair v behind st step l is x g

    -- of the sessions of s themselves

    abbrev IsNotWhole : Left → Type 0
    IsNotWhole (Goes i) = Unit {0}
    IsNotWhole (Whole m) = ⊥
    IsNotWhole Gone = Unit {0}

    kept : (kind : Kind) (set : List ℕ) (r : Received) → Replies d.0 s.0 r → IsNotWhole (left_by r) → receiver_view laws s d pair v behind (by_session st (connection_settled st.ports.station (own_key kind) set true st.sessions r)) ≡ with_kind kind (left_of set (left_by r)) v
    kept kind set (On t frame) a w = shows_put laws choose s d pair v behind l st h is kind (set, incoming.Connection t) frame a.1 ∙ none_more laws choose s d pair v behind l st h is kind (Some (set, incoming.Connection t))
    kept kind set (Complete m) a w = absurd w
    kept kind set (Ended frame) a w = shows_drop laws choose s d pair v behind l st h is kind frame [] [] [] (asked_none laws.gives s d d.0 s.0 frame low_d low_s a) refl ∙ none_more laws choose s d pair v behind l st h is kind None

    not_whole : (u : InState) (flow : Flow) (now : ℕ) → IsNotWhole (left_by (expired u flow now))
    not_whole u flow now = by_timer (λ r. IsNotWhole (left_by r)) flow now u tt tt

    abbrev fires_by : Kind → Option (List ℕ × Incoming) → ℕ → StationStep
    fires_by kind o now = by_session st (fired_by o st.ports (own_key kind) now st.sessions)

    nothing : StationStep
    nothing = record { station = record st { queue = st.queue ++ [] }; events = [] }

    nothing_fired : Goal (record { station = record st { queue = st.queue ++ [] }; events = [] })
    unfolding nothing
    nothing_fired = aside nothing (record { sessions = λ k. inr refl; frames = []; queue = refl; none = refl; untold = refl })

    fires_own : (kind : Kind) (now : ℕ) → Goal (by_session st (fired_at st.ports (own_key kind) now st.sessions))
    fires_own kind now = by (state_at st.sessions (own_key kind)) refl
      where
        real : (kind : Kind) → of_kind kind v.tp v.etp ≡ state_at st.sessions (own_key kind)
        real Tp = is.tp
        real Etp = is.etp

        by : (o : Option (List ℕ × Incoming)) → state_at st.sessions (own_key kind) ≡ o → Goal (fires_by kind o now)
        by None e = nothing_fired
        by (Some (set, incoming.Broadcast b)) e = absurd (no_broadcast kind (sym (h.sessions (own_key kind) (set, incoming.Broadcast b) e).state.1))
        by (Some (set, incoming.Connection u)) e =
            let flow : Flow = flow_at st.ports set in
            let p : InState = prepared_to_expire u flow in
            let r : Received = expired p flow now in
            subst (Still s d l) (sym (kept kind set r (connection_expired d.0 s.0 p flow now (peer_prepared_fire d.0 s.0 u flow (h.sessions (own_key kind) (set, incoming.Connection u) e).state.0)) (not_whole p flow now)))
            (renews v l kind set (incoming.Connection u) (left_by r) g (real kind ∙ e) (λ x z. connection_fired s d x u flow now z))

    -- of another session
    fires_else : (key : Key) (now : ℕ) → ((k : Kind) → own_key k ≡ key → ⊥) → Goal (by_session st (fired_at st.ports key now st.sessions))
    fires_else key now n = aside (by_session st (fired_at st.ports key now st.sessions)) (record {
      sessions = λ k. inr (fired_same key (own_key k) (n k) st.sessions st.ports now);
      frames = option_to_list (fired_at st.ports key now st.sessions).frame;
      queue = refl;
      none = by (state_at st.sessions key) refl;
      untold = told (key_cases key (key_of s session.Broadcast));
    })
      where
        broadcast_quiet : (o : Option (List ℕ × Incoming)) → key.kind ≡ session.Broadcast → state_at st.sessions key ≡ o → filter_map (returns s d) (option_to_list (fired_by o st.ports key now st.sessions).frame) ≡ []
        broadcast_quiet None b e = refl
        broadcast_quiet (Some (set, incoming.Broadcast x)) b e = refl
        broadcast_quiet (Some (set, incoming.Connection u)) b e = absurd (no_broadcast (unfinished_of u).kind (sym b ∙ (h.sessions key (set, incoming.Connection u) e).state.1))

        own_source : key.source.0 ≡ s.0 → (k : SessionKind) → key.kind ≡ k → key.kind ≡ session.Broadcast
        own_source e session.Broadcast q = q
        own_source e session.Tp q = absurd (n Tp (λ i. record { source = record { 0 = sym e i }; kind = sym q i }))
        own_source e session.Etp q = absurd (n Etp (λ i. record { source = record { 0 = sym e i }; kind = sym q i }))

        by : (o : Option (List ℕ × Incoming)) → state_at st.sessions key ≡ o → filter_map (returns s d) (option_to_list (fired_by o st.ports key now st.sessions).frame) ≡ []
        by None e = refl
        by (Some x) e = on_test (λ b. (key.source.0 == s.0) ≡ b → filter_map (returns s d) (option_to_list (fired_by (Some x) st.ports key now st.sessions).frame) ≡ []) (key.source.0 == s.0)
            (λ _ q. broadcast_quiet (Some x) (own_source (Rattle.std.proofs.Common.eqb-true key.source.0 s.0 q) key.kind refl) e)
            (λ _ q. replied_elsewhere laws.gives s d d.0 key.source.0 (fired_by (Some x) st.ports key now st.sessions).frame low_d (let z : key.source.0 < 254 = (h.sessions key x e).small in omega (arith, z)) (Rattle.std.proofs.lemmas.Bool.eqb-false key.source.0 s.0 q)
            (subst (λ o. RepliesIn d.0 key.source.0 (fired_by o st.ports key now st.sessions).frame) e (replies_fired d key st.sessions st.ports h.sessions now))) refl

        told : (key ≡ key_of s session.Broadcast) ⊎ (key ≡ key_of s session.Broadcast → ⊥) → station_told d s d (fired_at st.ports key now st.sessions).events ≡ []
        told (inl e) = telling_broadcast s d d d key _ (ap (λ (x : Key). x.kind) e) (λ q. (let l : d.0 < 254 = small_d laws s d pair in omega (arith, q, l))) (tells_fired d key st.sessions st.ports h.ports.station h.sessions now)
        told (inr m) = telling_foreign s d d d key _ (λ e. m (λ i. record { source = record { 0 = e i }; kind = own_source e key.kind refl i })) (tells_fired d key st.sessions st.ports h.ports.station h.sessions now)

    fires_key : (key : Key) (now : ℕ) → (key ≡ own_key Tp) ⊎ (key ≡ own_key Tp → ⊥) → (key ≡ own_key Etp) ⊎ (key ≡ own_key Etp → ⊥) → Goal (by_session st (fired_at st.ports key now st.sessions))
    fires_key key now (inl e) q = subst (λ k. Goal (by_session st (fired_at st.ports k now st.sessions))) (sym e) (fires_own Tp now)
    fires_key key now (inr n) (inl e) = subst (λ k. Goal (by_session st (fired_at st.ports k now st.sessions))) (sym e) (fires_own Etp now)
    fires_key key now (inr n) (inr m) = fires_else key now apart
      where
        apart : (k : Kind) → own_key k ≡ key → ⊥
        apart Tp e = n (sym e)
        apart Etp e = m (sym e)

    fires_lane : (now : ℕ) (o : Option ℕ) → Goal (lane_fired st now o)
    fires_lane now None = aside (quietly st) (in_none laws s d pair st)
    fires_lane now (Some to) = aside _ (in_lane_step laws s d pair st h (record { 0 = to }) (λ x. lane-fire.fired x now) (λ x z. out_fired d.0 to x now z))

    pub receiver_fires : (now : ℕ) → Goal (fired st now)
    receiver_fires now = by (first_due st.sessions now)
      where
        by : (o : Option Key) → Goal (elim o as (λ (_ : Option Key). StationStep) [ None ↦ lane_fired st now (due_lane st.lanes now) | Some key ↦ by_session st (fired_at st.ports key now st.sessions) ])
        by None = fires_lane now (due_lane st.lanes now)
        by (Some key) = fires_key key now (key_cases key (own_key Tp)) (key_cases key (own_key Etp))
