-- A port of the destination's station closes.
use Rattle.std.proofs.Common.{◌≡◌, inl, inr, ℕ, zero, suc, ◌<◌, ◌≤◌, ◌==◌, nat_lt, List, [], ◌∷◌, ◌++◌, filter_map, length, Option, Some, None, refl, sym, ap, ◌∙◌, subst, arith, append-nil, append_assoc}
use Rattle.std.specs.Prelude.{option_to_list}
use Rattle.std.proofs.lemmas.List.Elements.{filter_map-append}
use Rattle.std.proofs.lemmas.Option.{same_Some}
use Rattle.bus_frame.specs.Frames.{CanFrame}
use Rattle.pgn_ids.specs.declared.address.Address.{Address}
use Rattle.tp_wire.specs.declared.wire.Kind.{Kind}
use Rattle.tp_wire.specs.declared.wire.Kind.TheVariants.{Tp, Etp}
use Rattle.tx_queue.specs.Queue.{queue_limit}
use Rattle.port_table.specs.Ports.{Ports, without_port}
use Rattle.port_table.specs.PortSet.{without_number}
use Rattle.session_table.specs.Key.{session_for}
use Rattle.session_table.specs.declared.key.Key.{Key}
use Rattle.session_table.specs.declared.key.SessionKind.{SessionKind}
use Rattle.session_table.specs.declared.key.SessionKind.TheVariants as session
use Rattle.session_table.specs.declared.incoming.Incoming.{Incoming}
use Rattle.session_table.specs.Sessions.{state_at}
use Rattle.station_sessions.specs.Steps.{closing_frame}
use Rattle.station_sessions.specs.Receiving.{Inbound, Reception, unbound_at, unbound_by}
use Rattle.station_core.specs.Station.{Station, quietly}
use Rattle.station_sessions.specs.Opening.{key_of}
use Rattle.station_core.specs.Closing.{if_free, unbound_session, closed_below, closed}
use Rattle.record_law.proofs.Maps.{OfEach}
use Rattle.record_law.proofs.Tests.{either}
use Rattle.lane_law.specs.Choice.{IsChoice}
use Rattle.lane_law.specs.Lane as machine
use Rattle.broadcast_law.proofs.Receptions.{IsSessionOf, settles_unbound}
use Rattle.broadcast_law.proofs.Stations.{IsOwn}
use Rattle.connection_law.proofs.Frames.{returns}
use Rattle.connection_law.proofs.Sides.{asked_none}
use Rattle.connection_law.proofs.Replies.{closing_asks}
use Rattle.connection_law.proofs.Marks.{Lessens, less_mark, heard_without}
use Rattle.connection_law.proofs.Others.{unbound_lessens}
use Rattle.connection_law.proofs.Roles.{real_at, receiver_view, IsReceiverOf, StandsOn, stands_on, answers_more}
use Rattle.connection_law.proofs.View.{Laws, IsPair, Has, View, IsSame, of_kind, Sim, Still}
use Rattle.connection_law.proofs.Sender.{small_d}
use Rattle.connection_law.proofs.Receiver.{Real}

module _ (laws : Laws) (choose : machine.OnEachLane (λ lane. IsChoice lane.stream.given lane.stream.sent)) (s d : Address) (pair : IsPair s d) where
  low_d : d.0 < 256
  low_d = let l : d.0 < 254 = small_d laws s d pair in omega arith

  abbrev own_key : Kind → Key
  own_key k = key_of s (session_for k)

  lessens_then : (number : ℕ) (x y z : Real) → Lessens number y x → Lessens number z y → Lessens number z x
  lessens_then number x y z h (inl e) = inl e
  lessens_then number x y z h (inr (inl e)) = subst (λ o. Lessens number o x) (sym e) h
  lessens_then number x y z (inl e) (inr (inr (w, set, old, new, some, others))) = absurd (let q : None ≡ Some w = sym e ∙ old in cc)
  lessens_then number x y z (inr (inl e)) (inr (inr (w, set, old, new, some, others))) = inr (inr (w, set, sym e ∙ old, new, some, others))
  lessens_then number x y z (inr (inr (w1, set1, old1, new1, some1, others1))) (inr (inr (w, set, old, new, some, others))) =
      let q : (set1, w1.1) ≡ w = same_Some (set1, w1.1) w (sym new1 ∙ old) in
      let r : w1.1 ≡ w.1 = ap (λ (p : List ℕ × Incoming). p.1) q in
      let t : set1 ≡ w.0 = ap (λ (p : List ℕ × Incoming). p.0) q in
      inr (inr (w1, set, old1, new ∙ (λ i. Some (set, sym r i)), some, λ k n h. others k n (subst (λ ks. Has ks k) t (others1 k n h))))

  -- a port leaves the sets of sessions, and nothing is answered
  record Closes (number : ℕ) (st new : Station) : Type 0 where
    sessions : (k : Kind) → Lessens number (real_at laws s d pair new.sessions k) (real_at laws s d pair st.sessions k)
    frames : List CanFrame
    queue : new.queue ≡ st.queue ++ frames
    none : filter_map (returns s d) frames ≡ []

  closes_none : (number : ℕ) (st : Station) → Closes number st st
  closes_none number st = record { sessions = λ k. inr (inl refl); frames = []; queue = sym (append-nil st.queue); none = refl }

  closes_then : (number : ℕ) (x y z : Station) → Closes number x y → Closes number y z → Closes number x z
  closes_then number x y z h k = record {
    sessions = λ i. lessens_then number (real_at laws s d pair x.sessions i) (real_at laws s d pair y.sessions i) (real_at laws s d pair z.sessions i) (h.sessions i) (k.sessions i);
    frames = h.frames ++ k.frames;
    queue = k.queue ∙ ap (λ q. q ++ k.frames) h.queue ∙ append_assoc x.queue h.frames k.frames;
    none = filter_map-append (returns s d) h.frames k.frames ∙ (λ i. h.none i ++ k.none i);
  }

  frees : (number : ℕ) (st : Station) (sessions : Inbound) (frame : Option CanFrame) → ((k : Kind) → Lessens number (real_at laws s d pair sessions k) (real_at laws s d pair st.sessions k)) → filter_map (returns s d) (option_to_list frame) ≡ [] → Closes number st (record st { queue = if_free st.queue frame; sessions = sessions })
  frees number st sessions None r e = record { sessions = r; frames = []; queue = sym (append-nil st.queue); none = refl }
  frees number st sessions (Some f) r e = either (λ q. Closes number st (record st { queue = q; sessions = sessions })) (nat_lt (length st.queue) queue_limit) (st.queue ++ f ∷ []) st.queue
      (record { sessions = r; frames = f ∷ []; queue = refl; none = e }) (record { sessions = r; frames = []; queue = sym (append-nil st.queue); none = refl })

  abbrev AreOf : Station → Type 0
  AreOf st = OfEach (IsSessionOf d.0) st.sessions

  closing_none : (st : Station) (key : Key) (number : ℕ) → key.source.0 < 256 → AreOf st → filter_map (returns s d) (option_to_list (unbound_at key number st.sessions).frame) ≡ []
  closing_none st key number l k = by (state_at st.sessions key) refl
    where
      by : (o : Option (List ℕ × Incoming)) → state_at st.sessions key ≡ o → filter_map (returns s d) (option_to_list (unbound_by o key number st.sessions).frame) ≡ []
      by None e = refl
      by (Some x) e = either (λ (r : Reception). filter_map (returns s d) (option_to_list r.frame) ≡ []) (length (without_number x.0 number) == 0) _ _
          (asked_none laws.gives s d d.0 key.source.0 (closing_frame x.1) low_d l (closing_asks d key st.sessions x.1 (k key x e).state)) refl

  closes_one : (st : Station) (source : Address) (kind : SessionKind) (number : ℕ) → source.0 < 256 → AreOf st → Closes number st (unbound_session st source kind number)
  closes_one st source kind number l k = frees number st (unbound_at (key_of source kind) number st.sessions).sessions (unbound_at (key_of source kind) number st.sessions).frame
      (λ i. unbound_lessens st.sessions (key_of source kind) (own_key i) number) (closing_none st (key_of source kind) number l k)

  module _ (ports : Ports) (station : ports.station ≡ d) where
    own_one : (st : Station) (source : Address) (kind : SessionKind) (number : ℕ) → AreOf st → AreOf (unbound_session st source kind number)
    own_one st source kind number k = (settles_unbound d ports station (small_d laws s d pair) (key_of source kind) st.sessions k number).sessions

    closes_all : (st : Station) (number n : ℕ) → n ≤ 254 → AreOf st → Closes number st (closed_below st number n) × AreOf (closed_below st number n)
    unfolding closed_below
    closes_all st number zero l k = (closes_none number st, k)
    closes_all st number (suc n) l k =
        let one : Closes number st (closed_below st number n) × AreOf (closed_below st number n) = closes_all st number n (omega (arith, l)) k in
        let x : Station = closed_below st number n in
        let source : Address = record { 0 = n } in
        let y : Station = unbound_session x source session.Broadcast number in
        let z : Station = unbound_session y source session.Tp number in
        let small : n < 256 = omega (arith, l) in
        let own_y : AreOf y = own_one x source session.Broadcast number one.1 in
        let own_z : AreOf z = own_one y source session.Tp number own_y in (
          closes_then number st x (unbound_session z source session.Etp number) one.0
              (closes_then number x y (unbound_session z source session.Etp number) (closes_one x source session.Broadcast number small one.1) (closes_then number y z (unbound_session z source session.Etp number) (closes_one y source session.Tp number small own_y) (closes_one z source session.Etp number small own_z))),
          own_one z source session.Etp number own_z,
        )

  closes_here : (st : Station) (number : ℕ) → IsOwn d st → Closes number (record st { ports = without_port st.ports number }) (closed st number)
  closes_here st number k = (closes_all st.ports k.ports.station (record st { ports = without_port st.ports number }) number 254 (omega arith) k.sessions).0

  -- what is due to the others stays
  pub receiver_closes : (v : View) (behind : List CanFrame) (st : Station) (number : ℕ) (l : machine.Lane) → IsReceiverOf laws s d pair v behind st → IsOwn d st → Sim s d v l
      → Still s d l (record (receiver_view laws s d pair v behind (quietly (closed st number))) { opened = λ k. less_mark (number ∷ []) (v.opened k) })
  receiver_closes v behind st number l is own h = subst (Still s d l) (sym (λ i. (let w : View = record v { tp = real_at laws s d pair (closed st number).sessions Tp; etp = real_at laws s d pair (closed st number).sessions Etp; answers = answers i; given = append-nil v.given i; opened = λ k. less_mark (number ∷ []) (v.opened k) } in w)))
      (stands_on laws s d pair v l (real_at laws s d pair (closed st number).sessions Tp) (real_at laws s d pair (closed st number).sessions Etp) (λ k. less_mark (number ∷ []) (v.opened k)) h on)
    where
      q : Closes number (record st { ports = without_port st.ports number }) (closed st number)
      q = closes_here st number own

      on : (k : Kind) → StandsOn laws s d pair (less_mark (number ∷ []) (v.opened k)) (of_kind k (real_at laws s d pair (closed st number).sessions Tp) (real_at laws s d pair (closed st number).sessions Etp)) (v.opened k) (of_kind k v.tp v.etp)
      on Tp = heard_without (IsSame s d) number (v.opened Tp) (real_at laws s d pair (closed st number).sessions Tp) v.tp (subst (Lessens number (real_at laws s d pair (closed st number).sessions Tp)) (sym is.tp) (q.sessions Tp))
      on Etp = heard_without (IsSame s d) number (v.opened Etp) (real_at laws s d pair (closed st number).sessions Etp) v.etp (subst (Lessens number (real_at laws s d pair (closed st number).sessions Etp)) (sym is.etp) (q.sessions Etp))

      answers : filter_map (returns s d) (behind ++ (closed st number).queue) ≡ v.answers
      answers = ap (λ fs. filter_map (returns s d) (behind ++ fs)) q.queue ∙ answers_more laws s d pair behind st.queue q.frames ∙ ap (λ ws. filter_map (returns s d) (behind ++ st.queue) ++ ws) q.none ∙ append-nil (filter_map (returns s d) (behind ++ st.queue)) ∙ sym is.answers
