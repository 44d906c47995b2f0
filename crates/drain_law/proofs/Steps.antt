-- The first of the messages that wait on a ready segment is carried, and the segment is ready again, with the others.
use Rattle.std.proofs.Common.{◌≡◌, ◌≢◌, ◌⊎◌, inl, inr, ℕ, ◌+◌, ◌<◌, ◌≤◌, ◌^◌, ◌==◌, nat_lt, Bool, true, false, cond, not, ◌&&◌, List, [], ◌∷◌, ◌++◌, map, drop, length, get_or, Option, Some, None, refl, sym, ap, ◌∙◌, subst, arith}
use Rattle.std.specs.Prelude.{All, slice_get, is_some, is_none, unwrap_or, flat_map, ⊤}
use Rattle.std.specs.List.{list_all, range_with_len}
use Rattle.std.specs.FinMap as finmap
use Rattle.std.specs.FinMap.{get-empty, len-empty}
use Rattle.std.proofs.lemmas.Bool.{true≢false, eqb-true, eqb-false, ne_eqb, eq-eqb, ltb-true, lt-ltb}
use Rattle.std.proofs.lemmas.List.{length-append, append-nil}
use Rattle.std.proofs.lemmas.List.Elements.{All-head, All-tail}
use Rattle.std.proofs.lemmas.List.Sums.{list_all-from_AllPass}
use Rattle.std.proofs.lemmas.Option.{none-some, same_Some, slice_get_within, slice_get-get_or, get_or_from_slice_get}
use Rattle.bus_frame.specs.Frames.{CanFrame}
use Rattle.pgn_ids.specs.Address.{global_address}
use Rattle.pgn_ids.specs.declared.address.Address.{Address}
use Rattle.port_table.specs.Ports.{Ports, is_any_paused, ports_for}
use Rattle.tp_wire.specs.declared.outcome.Outcome.TheVariants as outcome
use Rattle.message_events.specs.declared.event.Event.{Event}
use Rattle.message_events.specs.declared.event.Event.TheVariants as event
use Rattle.bus_order.specs.Bus.{bus_len, waiting}
use Rattle.lane_core.specs.Lane.{Lane, new_lane, kind_for}
use Rattle.lane_core.specs.declared.message.Pending.{Pending}
use Rattle.lane_core.specs.declared.place.UnderWay.TheVariants.{Nothing}
use Rattle.lane_core.specs.declared.probe.Standing.{Standing}
use Rattle.lane_core.specs.declared.probe.Standing.TheVariants.{Settled}
use Rattle.session_table.specs.Key.{key_cmp, session_for}
use Rattle.session_table.specs.Sessions.{state_at}
use Rattle.session_table.specs.declared.key.Key.{Key}
use Rattle.session_table.specs.declared.key.SessionKind.{SessionKind}
use Rattle.station_lanes.specs.Lanes.{Lanes}
use Rattle.station_lanes.specs.LaneCalls.{lane_to}
use Rattle.station_lanes.specs.LaneReaders.{least_below}
use Rattle.station_sessions.proofs.SessionMaps.{remove_missing}
use Rattle.station_sessions.specs.Receiving.{Inbound}
use Rattle.station_sessions.specs.Opening.{key_of, others_than}
use Rattle.station_core.specs.Station.{Station, new_station}
use Rattle.segment_law.specs.Segment.{Segment, place_of, has_station, station_at, lane_at, waiting_at}
use Rattle.segment_law.specs.Record.{Record, StandsAt}
use Rattle.segment_law.specs.Reached.{IsFitStation, IsReached}
use Rattle.segment_law.specs.Readers.{pumps_to, next_pump}
use Rattle.segment_law.specs.Quiet.{quiet, given_by, takers, is_at_rest}
use Rattle.segment_law.proofs.Booleans.{both_pass, both, not_passes}
use Rattle.segment_law.proofs.Records.{stands_reached}
use Rattle.record_law.proofs.Maps.{lane_here, lane_else}
use Rattle.record_law.proofs.Segments.{found_there, has_address}
use Rattle.record_law.proofs.Tests.{equal_or_not}
use Rattle.exchange_law.proofs.Rows.{Laws}
use Rattle.exchange_law.proofs.broadcasts.Quiets.{station_is}
use Rattle.exchange_law.proofs.broadcasts.Sweeps.{waiting_is}
use Rattle.exchange_law.proofs.broadcasts.Turns.{Rests}
use Rattle.work_law.proofs.StationCalls.{least_found}
use Rattle.segment_drain.specs.Chosen.{node, can, lowest}
use Rattle.segment_drain.specs.declared.kind.Kind.TheVariants as kind
use Rattle.drain_law.specs.Waiting.{Waiting, IsReadyLane, is_wanted, may_end, IsLastOr, MayEnd, IsReady, lane_messages, station_messages, messages_of, refused_frames, frames_of, events_of_one, events_of_all}
use Rattle.drain_law.proofs.Choices.{each_at, no_pump}
use Rattle.drain_law.proofs.Lists.{Heads, flat_none, flat_same, flat_first, flat_head}
use Rattle.drain_law.proofs.Quiets.{IsLeft, HasEnded, IsSet, below_first, below_none, none_mapped, same_number, unsome}
use Rattle.drain_law.proofs.Ready.{HasFront, no_message, a_message, no_lane}

-- ---- what a carried message leaves

module _ (seg : Segment) (s d : Address) (m : Pending) (fs : List CanFrame) (es : List Event) (r : IsReached seg) (c : HasEnded seg s d m fs es) where
  -- a station has the same address as before, or there was none
  record Stood (a : Address) : Type 0 where
    place : ℕ
    before : Station
    after : Station
    was : slice_get seg.stations place ≡ Some before
    is : slice_get c.after.stations place ≡ Some after
    address : before.address ≡ a
    left : IsLeft s d c.lane before after

  record Absent (a : Address) : Type 0 where
    was : place_of seg a ≡ None
    is : place_of c.after a ≡ None

  at_place : (i : ℕ) (z : Station) → slice_get seg.stations i ≡ Some z → Stood z.address
  at_place i z at =
      let inside : i < length c.after.stations = (let l : i < length seg.stations = slice_get_within seg.stations i z at in omega (arith, l, c.many)) in
      let u : Station = get_or c.after.stations i z in
      let there : slice_get c.after.stations i ≡ Some u = slice_get-get_or c.after.stations i z inside in
      let w = c.stations i u there in
      let same : w.0 ≡ z = same_Some w.0 z (sym w.1 ∙ at) in
      record { place = i; before = z; after = u; was = at; is = there; address = refl; left = subst (λ (b : Station). IsLeft s d c.lane b u) same w.2 }

  stood : (a : Address) → Stood a ⊎ Absent a
  stood a = by (place_of seg a) refl
    where
      here : (i : ℕ) → place_of seg a ≡ Some i → Stood a
      here i e =
          let z : Station = get_or seg.stations i (new_station a) in
          let at : slice_get seg.stations i ≡ Some z = found_there (λ (u : Station). u.address.0 == a.0) seg.stations i (new_station a) e in
          let is : z.address ≡ a = (λ k. record { 0 = has_address seg a i z e at k }) in
          subst Stood is (at_place i z at)

      gone : place_of seg a ≡ None → (o : Option ℕ) → place_of c.after a ≡ o → o ≡ None
      gone none None e = refl
      gone none (Some i) e =
          let u : Station = get_or c.after.stations i (new_station a) in
          let there : slice_get c.after.stations i ≡ Some u = found_there (λ (v : Station). v.address.0 == a.0) c.after.stations i (new_station a) e in
          let w = c.stations i u there in
          let same : w.0.address ≡ a = sym w.2.address ∙ (λ k. record { 0 = has_address c.after a i u e there k }) in
          absurd (none-some i (sym none ∙ ap (place_of seg) (sym same) ∙ r.places i w.0 w.1))

      by : (o : Option ℕ) → place_of seg a ≡ o → Stood a ⊎ Absent a
      by None e = inr (record { was = e; is = gone e (place_of c.after a) refl })
      by (Some i) e = inl (here i e)

  module _ (a : Address) (w : Stood a) where
    was_at : station_at seg a ≡ w.before
    was_at = ap (station_at seg) (sym w.address) ∙ station_is seg r w.place w.before w.was

    is_at : station_at c.after a ≡ w.after
    is_at = ap (station_at c.after) (sym (w.left.address ∙ w.address)) ∙ station_is c.after c.reached w.place w.after w.is

    has_before : has_station seg a ≡ true
    has_before = ap (λ (o : Option ℕ). is_some o) (ap (place_of seg) (sym w.address) ∙ r.places w.place w.before w.was)

    has_after : has_station c.after a ≡ true
    has_after = ap (λ (o : Option ℕ). is_some o) (ap (place_of c.after) (sym (w.left.address ∙ w.address)) ∙ c.reached.places w.place w.after w.is)

    same_ports : (station_at c.after a).ports ≡ (station_at seg a).ports
    same_ports = ap (λ (z : Station). z.ports) is_at ∙ w.left.ports ∙ ap (λ (z : Station). z.ports) (sym was_at)

  -- where there is no station, all is as for a new one
  module _ (a : Address) (w : Absent a) where
    new_before : station_at seg a ≡ new_station a
    new_before = ap (λ (o : Option ℕ). unwrap_or (elim o as (λ (_ : Option ℕ). Option Station) [ None ↦ None | Some i ↦ slice_get seg.stations i ]) (new_station a)) w.was

    new_after : station_at c.after a ≡ new_station a
    new_after = ap (λ (o : Option ℕ). unwrap_or (elim o as (λ (_ : Option ℕ). Option Station) [ None ↦ None | Some i ↦ slice_get c.after.stations i ]) (new_station a)) w.is

  -- whether a message may end, and is wanted
  takers_of : Ports → Pending → List ℕ
  takers_of ports x = ports_for ports x.pgn (length x.bytes)

  same_takers : (to : Address) (x : Pending) → takers (station_at c.after to) x ≡ takers (station_at seg to) x
  same_takers to x = by (stood to)
    where
      by : Stood to ⊎ Absent to → takers (station_at c.after to) x ≡ takers (station_at seg to) x
      by (inl w) = ap (λ (ports : Ports). ports_for ports x.pgn (length x.bytes)) (same_ports to w)
      by (inr w) = ap (λ (z : Station). takers z x) (new_after to w ∙ sym (new_before to w))

  same_wanted : (to : Address) (x : Pending) → is_wanted c.after to x ≡ is_wanted seg to x
  same_wanted to x = ap (λ (ps : List ℕ). nat_lt 0 (length ps)) (same_takers to x)

  same_end : (to : Address) (x : Pending) → may_end c.after to x ≡ may_end seg to x
  same_end to x = by (stood to)
    where
      by : Stood to ⊎ Absent to → may_end c.after to x ≡ may_end seg to x
      by (inl w) = (λ k. (has_after to w ∙ sym (has_before to w)) k && not (is_any_paused (same_ports to w k) (same_takers to x k)))
      by (inr w) = (λ k. is_some ((w.is ∙ sym w.was) k) && not (is_any_paused ((new_after to w ∙ sym (new_before to w)) k).ports (same_takers to x k)))

  pub all_end : (to : Address) (ms : List Pending) → MayEnd seg to ms → MayEnd c.after to ms
  all_end to [] h = tt
  all_end to (x ∷ ms) h = (same_end to x ∙ h.0, subst (λ (b : Bool). IsLastOr b ms) (sym (same_wanted to x)) h.1, all_end to ms h.2)

  -- the events of a message
  same_given : (to : Address) (x : Pending) (from : Address) → given_by (station_at c.after to) x from to ≡ given_by (station_at seg to) x from to
  same_given to x from = by (stood to)
    where
      by : Stood to ⊎ Absent to → given_by (station_at c.after to) x from to ≡ given_by (station_at seg to) x from to
      by (inl w) = (λ k. map (λ number. event.Given (record { station = addresses k; number = number }) from to x.pgn x.bytes) (same_takers to x k))
        where
          addresses : (station_at c.after to).address ≡ (station_at seg to).address
          addresses = ap (λ (z : Station). z.address) (is_at to w) ∙ w.left.address ∙ ap (λ (z : Station). z.address) (sym (was_at to w))
      by (inr w) = ap (λ (z : Station). given_by z x from to) (new_after to w ∙ sym (new_before to w))

  same_events : (w : Waiting) → events_of_one c.after w ≡ events_of_one seg w
  same_events (from, to, x) = (λ k. cond (same_wanted to x k) (same_given to x from k ++ event.Outcome from to x.number outcome.Acknowledged ∷ []) (event.Outcome from to x.number (outcome.Aborted 2) ∷ []))

  pub all_same_frames : (ws : List Waiting) → frames_of c.after ws ≡ frames_of seg ws
  all_same_frames [] = refl
  all_same_frames (w ∷ ws) = (λ k. cond (same_wanted w.1 w.2 k) (quiet w.2 w.0 w.1) (refused_frames w.2 w.0 w.1) ++ all_same_frames ws k)

  pub all_same_events : (ws : List Waiting) → events_of_all c.after ws ≡ events_of_all seg ws
  all_same_events [] = refl
  all_same_events (w ∷ ws) = (λ k. same_events w k ++ all_same_events ws k)

  -- the lane of the message, and every other lane
  pub lane_now : (has : has_station seg s ≡ true) → lane_at c.after s d ≡ c.lane
  lane_now has = by (stood s)
    where
      by : Stood s ⊎ Absent s → lane_at c.after s d ≡ c.lane
      by (inl w) =
          ap (λ (z : Station). lane_to z.address z.lanes d.0) (is_at s w)
          ∙ ap (λ (ls : Lanes). lane_to w.after.address ls d.0) (w.left.lanes ∙ ap (λ (b : Bool). cond b (finmap.insert w.before.lanes d.0 c.lane) w.before.lanes) (eq-eqb w.before.address.0 s.0 (ap (λ (x : Address). x.0) w.address)))
          ∙ ap (λ (o : Option Lane). elim o as (λ (_ : Option Lane). Lane) [ None ↦ new_lane w.after.address.0 d.0 | Some l ↦ l ]) (lane_here w.before.lanes d.0 c.lane)
      by (inr w) = absurd (true≢false (sym has ∙ ap (λ (o : Option ℕ). is_some o) w.was))

  pub lane_before : (from to : Address) → ((from.0 ≡ s.0) × (to.0 ≡ d.0) → ⊥) → lane_at c.after from to ≡ lane_at seg from to
  lane_before from to apart = by (stood from)
    where
      other : (w : Stood from) → (from.0 ≡ s.0) ⊎ (from.0 ≡ s.0 → ⊥) → finmap.get w.after.lanes to.0 ≡ finmap.get w.before.lanes to.0
      other w (inl e) =
          ap (λ (ls : Lanes). finmap.get ls to.0) (w.left.lanes ∙ ap (λ (b : Bool). cond b (finmap.insert w.before.lanes d.0 c.lane) w.before.lanes) (eq-eqb w.before.address.0 s.0 (ap (λ (x : Address). x.0) w.address ∙ e)))
          ∙ lane_else w.before.lanes d.0 to.0 c.lane (λ q. apart (e, q))
      other w (inr n) = ap (λ (ls : Lanes). finmap.get ls to.0) (w.left.lanes ∙ ap (λ (b : Bool). cond b (finmap.insert w.before.lanes d.0 c.lane) w.before.lanes) (ne_eqb w.before.address.0 s.0 (λ q. n (ap (λ (x : Address). x.0) (sym w.address) ∙ q))))

      by : Stood from ⊎ Absent from → lane_at c.after from to ≡ lane_at seg from to
      by (inl w) =
          ap (λ (z : Station). lane_to z.address z.lanes to.0) (is_at from w)
          ∙ (λ k. elim (other w (equal_or_not from.0 s.0) k) as (λ (_ : Option Lane). Lane) [ None ↦ new_lane (w.left.address k).0 to.0 | Some l ↦ l ])
          ∙ ap (λ (z : Station). lane_to z.address z.lanes to.0) (sym (was_at from w))
      by (inr w) = ap (λ (z : Station). lane_to z.address z.lanes to.0) (new_after from w ∙ sym (new_before from w))

  -- all is at rest, and no session is open
  pub rest_now : is_at_rest c.after ≡ true
  rest_now = list_all-from_AllPass (λ st. length st.queue == 0 && waiting_at c.after st.address == 0) c.after.stations one
    where
      one : All (λ (st : Station). (length st.queue == 0 && waiting_at c.after st.address == 0) ≡ true) c.after.stations
      one j default lt =
          let st : Station = get_or c.after.stations j default in
          let here : slice_get c.after.stations j ≡ Some st = slice_get-get_or c.after.stations j default lt in
          let w = c.stations j st here in
          let none : waiting_at c.after st.address ≡ 0 = waiting_is c.after st.address j st (c.reached.places j st here) here ∙ (let z : waiting c.after.bus j ≡ 0 = omega (arith, c.resting.len, c.resting.took j (omega (arith, lt, c.many))) in z) in
          let nothing : length st.queue ≡ 0 = ap (λ (q : List CanFrame). length q) w.2.queue in
          both (length st.queue == 0) (waiting_at c.after st.address == 0) (eq-eqb (length st.queue) 0 nothing) (eq-eqb (waiting_at c.after st.address) 0 none)

  pub sessions_now : ((a : Address) → (station_at seg a).sessions ≡ finmap.empty) → (a : Address) → (station_at c.after a).sessions ≡ finmap.empty
  sessions_now none a = by (stood a)
    where
      by : Stood a ⊎ Absent a → (station_at c.after a).sessions ≡ finmap.empty
      by (inl w) = ap (λ (z : Station). z.sessions) (is_at a w) ∙ w.left.sessions (ap (λ (z : Station). z.sessions) (sym (was_at a w)) ∙ none a)
      by (inr w) = ap (λ (z : Station). z.sessions) (new_after a w ∙ sym (new_before a w)) ∙ none a

-- ---- the first message that waits

-- the lowest lane that can be pumped has a message that is carried
pub record First (seg : Segment) (h : IsReady seg) : Type 0 where
  pub s : Address
  pub d : Address
  pub s_small : s.0 < 254
  pub d_small : d.0 < 254
  pub has : has_station seg s ≡ true
  pub m : Pending
  pub more : List Pending
  pub waits : (lane_at seg s d).pending ≡ m ∷ more
  pub lower : (a : ℕ) → a < s.0 → (to : ℕ) → to < 256 → (lane_at seg (node a) (node to)).pending ≡ []
  pub own : (to : ℕ) → to < d.0 → (lane_at seg s (node to)).pending ≡ []
  pub chosen : lowest seg kind.Pump ≡ Some s
  pub its : next_pump seg s ≡ Some d
  pub set : IsSet seg s d m

module _ (addresses : List Address) (steps : Record) (seg : Segment) (stands : StandsAt addresses steps seg) (h : IsReady seg) where
  r : IsReached seg
  r = stands_reached addresses steps seg stands

  abbrev pumps_from : ℕ → Bool
  pumps_from n = can seg kind.Pump (node n)

  -- where a station has nothing to pump, no message of it waits
  none_from_station : (a : ℕ) → pumps_from a ≡ false → (to : ℕ) → to < 256 → (lane_at seg (node a) (node to)).pending ≡ []
  none_from_station a e to under = by (place_of seg (node a)) refl
    where
      by : (o : Option ℕ) → place_of seg (node a) ≡ o → (lane_at seg (node a) (node to)).pending ≡ []
      by None q = no_lane seg r h (node a) q (node to)
      by (Some i) q =
          let st : Station = get_or seg.stations i (new_station (node a)) in
          let at : slice_get seg.stations i ≡ Some st = found_there (λ (u : Station). u.address.0 == a) seg.stations i (new_station (node a)) q in
          let is : st.address ≡ node a = (λ k. record { 0 = has_address seg (node a) i st q at k }) in
          let none : least_below (pumps_to seg (node a)) 256 ≡ None = none_mapped (least_below (pumps_to seg (node a)) 256) (unsome (next_pump seg (node a)) e) in
          subst (λ (x : Address). (lane_at seg x (node to)).pending ≡ []) is
          (no_message seg r h i st at to (subst (λ (x : Address). pumps_to seg x to ≡ false) (sym is) (below_none (pumps_to seg (node a)) 256 none to under)))

  pub none_at_all : lowest seg kind.Pump ≡ None → (a to : ℕ) → a < 254 → to < 256 → (lane_at seg (node a) (node to)).pending ≡ []
  none_at_all e a to small under = none_from_station a (below_none pumps_from 254 (none_mapped (least_below pumps_from 254) e) a small) to under

  pub first_of_all : (s : Address) → lowest seg kind.Pump ≡ Some s → First seg h
  first_of_all s e = by (next_pump seg s) refl
    where
      found : (pumps_from s.0 ≡ true) × (s.0 < 254)
      found = least_found pumps_from 254 s.0 (same_number (least_below pumps_from 254) s e)

      there : (d : Address) → next_pump seg s ≡ Some d → (i : ℕ) → place_of seg s ≡ Some i → First seg h
      there d its i q =
          let st : Station = get_or seg.stations i (new_station s) in
          let at : slice_get seg.stations i ≡ Some st = found_there (λ (u : Station). u.address.0 == s.0) seg.stations i (new_station s) q in
          let is : st.address ≡ s = (λ k. record { 0 = has_address seg s i st q at k }) in
          let number : least_below (pumps_to seg s) 256 ≡ Some d.0 = same_number (least_below (pumps_to seg s) 256) d its in
          let one : (pumps_to seg s d.0 ≡ true) × (d.0 < 256) = least_found (pumps_to seg s) 256 d.0 number in
          let front : HasFront (lane_at seg s d) (h.lanes s d) seg.now = subst (λ (x : Address). HasFront (lane_at seg x d) (h.lanes x d) seg.now) is (a_message seg r h i st at d.0 (subst (λ (x : Address). pumps_to seg x d.0 ≡ true) (sym is) one.0)) in
          let ends : MayEnd seg d (front.m ∷ front.more) = subst (MayEnd seg d) front.is (h.messages s d) in
          let parts = both_pass (has_station seg d) _ ends.0 in
          let d_small : d.0 < 254 = station_small d parts.0 in
          record {
            s = s;
            d = d;
            s_small = found.1;
            d_small = d_small;
            has = ap (λ (o : Option ℕ). is_some o) q;
            m = front.m;
            more = front.more;
            waits = front.is;
            lower = λ a lt to under. none_from_station a (below_first pumps_from 254 s.0 (same_number (least_below pumps_from 254) s e) a lt) to under;
            own = λ to lt. subst (λ (x : Address). (lane_at seg x (node to)).pending ≡ []) is (no_message seg r h i st at to (subst (λ (x : Address). pumps_to seg x to ≡ false) (sym is) (below_first (pumps_to seg s) 256 d.0 number to lt)));
            chosen = e;
            its = its;
            set = record {
              sender = ap (λ (o : Option ℕ). is_some o) q;
              receiver = parts.0;
              at_rest = h.at_rest;
              settled = record { under_way = (h.lanes s d).under_way; standing = front.settled };
              front = ap (λ (ms : List Pending). slice_get ms 0) front.is;
              last = subst (λ (ms : List Pending). IsLastOr (is_wanted seg d front.m) ms) (ap (λ (ms : List Pending). drop 1 ms) (sym front.is)) ends.1;
              flowing = not_passes (is_any_paused (station_at seg d).ports (takers (station_at seg d) front.m)) parts.1;
              sessions = h.sessions;
            };
          }
        where
          station_small : (d : Address) → has_station seg d ≡ true → d.0 < 254
          station_small d q = by_place (place_of seg d) refl q
            where
              by_place : (o : Option ℕ) → place_of seg d ≡ o → is_some o ≡ true → d.0 < 254
              by_place None p w = absurd (true≢false (sym w))
              by_place (Some i) p w =
                  let st : Station = get_or seg.stations i (new_station d) in
                  let at : slice_get seg.stations i ≡ Some st = found_there (λ (u : Station). u.address.0 == d.0) seg.stations i (new_station d) p in
                  let is : st.address.0 ≡ d.0 = has_address seg d i st p at in
                  let below : st.address.0 < 254 = ltb-true st.address.0 254 (each_at IsFitStation seg.stations i st r.stations at).own in
                  omega (arith, is, below)

      by : (o : Option Address) → next_pump seg s ≡ o → First seg h
      by None q = absurd (true≢false (sym found.0 ∙ ap (λ (x : Option Address). is_some x) q))
      by (Some d) q = by_place (place_of seg s) refl
        where
          absent : place_of seg s ≡ None → ⊥
          absent none = true≢false (sym (ap (λ (x : Option Address). is_some x) q) ∙ ap (λ (x : Option Address). is_some x) (no_pump seg s (λ i st p at. absurd (none-some i (sym none ∙ p)))))

          by_place : (o : Option ℕ) → place_of seg s ≡ o → First seg h
          by_place None p = absurd (absent p)
          by_place (Some i) p = there d q i p

-- the messages begin with it
pub starts : (seg : Segment) (h : IsReady seg) (f : First seg h) → Heads (messages_of seg) (f.s, f.d, f.m)
starts seg h f =
    let lane : lane_messages seg f.s.0 f.d.0 ≡ (f.s, f.d, f.m) ∷ map (λ (m : Pending). (f.s, f.d, m)) f.more = ap (map (λ (m : Pending). (f.s, f.d, m))) f.waits in
    let station : Heads (station_messages seg f.s.0) (f.s, f.d, f.m) = flat_head (lane_messages seg f.s.0) (f.s, f.d, f.m) _ 0 256 f.d.0 (omega arith) (let l = f.d_small in omega (arith, l)) (λ to from lt. ap (map (λ (m : Pending). (f.s, node to, m))) (f.own to lt)) lane in
    flat_head (station_messages seg) (f.s, f.d, f.m) station.rest 0 254 f.s.0 (omega arith) (let l = f.s_small in omega (arith, l))
    (λ a from lt. flat_none (lane_messages seg a) 0 256 (λ to g under. ap (map (λ (m : Pending). (node a, node to, m))) (f.lower a lt to (omega (arith, under))))) station.is

-- ---- the messages that are left

module _ (seg : Segment) (h : IsReady seg) (f : First seg h) (fs : List CanFrame) (es : List Event) (r : IsReached seg) (c : HasEnded seg f.s f.d f.m fs es) where
  abbrev pub next : Segment
  next = c.after

  same_lane : (a to : ℕ) → ((a ≡ f.s.0) × (to ≡ f.d.0) → ⊥) → lane_at next (node a) (node to) ≡ lane_at seg (node a) (node to)
  same_lane a to apart = lane_before seg f.s f.d f.m fs es r c (node a) (node to) apart

  the_lane : lane_at next f.s f.d ≡ c.lane
  the_lane = lane_now seg f.s f.d f.m fs es r c f.has

  alike : (a to : ℕ) → ((a ≡ f.s.0) × (to ≡ f.d.0) → ⊥) → lane_messages seg a to ≡ lane_messages next a to
  alike a to apart = ap (λ (l : Lane). map (λ (m : Pending). (node a, node to, m)) l.pending) (sym (same_lane a to apart))

  abbrev pub first : Waiting
  first = (f.s, f.d, f.m)

  one_lane : lane_messages seg f.s.0 f.d.0 ≡ first ∷ lane_messages next f.s.0 f.d.0
  one_lane =
      ap (map (λ (m : Pending). (f.s, f.d, m))) c.pending
      ∙ ap (λ (ms : List Pending). first ∷ map (λ (m : Pending). (f.s, f.d, m)) ms) (ap (λ (l : Lane). l.pending) (sym the_lane))

  one_station : station_messages seg f.s.0 ≡ first ∷ station_messages next f.s.0
  one_station = flat_first (lane_messages seg f.s.0) (lane_messages next f.s.0) first 0 256 f.d.0 (omega arith) (let l = f.d_small in omega (arith, l)) lower one_lane above
    where
      none : (to : ℕ) → to < f.d.0 → lane_messages seg f.s.0 to ≡ []
      none to lt = ap (map (λ (m : Pending). (f.s, node to, m))) (f.own to lt)

      lower : (to : ℕ) → 0 ≤ to → to < f.d.0 → (lane_messages seg f.s.0 to ≡ []) × (lane_messages next f.s.0 to ≡ [])
      lower to from lt = (none to lt, sym (alike f.s.0 to (λ q. (let e = q.1 in absurd (omega (arith, e, lt))))) ∙ none to lt)

      above : (to : ℕ) → f.d.0 < to → to < 0 + 256 → lane_messages seg f.s.0 to ≡ lane_messages next f.s.0 to
      above to lt under = alike f.s.0 to (λ q. (let e = q.1 in absurd (omega (arith, e, lt))))

  pub all_messages : messages_of seg ≡ first ∷ messages_of next
  all_messages = flat_first (station_messages seg) (station_messages next) first 0 254 f.s.0 (omega arith) (let l = f.s_small in omega (arith, l)) lower one_station (λ a lt under. others a (λ e. absurd (omega (arith, e, lt))))
    where
      others : (a : ℕ) → (a ≡ f.s.0 → ⊥) → station_messages seg a ≡ station_messages next a
      others a ne = flat_same (lane_messages seg a) (lane_messages next a) 0 256 (λ to from under. alike a to (λ q. ne q.0))

      none : (a : ℕ) → a < f.s.0 → station_messages seg a ≡ []
      none a lt = flat_none (lane_messages seg a) 0 256 (λ to from under. ap (map (λ (m : Pending). (node a, node to, m))) (f.lower a lt to (omega (arith, under))))

      lower : (a : ℕ) → 0 ≤ a → a < f.s.0 → (station_messages seg a ≡ []) × (station_messages next a ≡ [])
      lower a from lt = (none a lt, sym (others a (λ e. absurd (omega (arith, e, lt)))) ∙ none a lt)

  -- and all is ready again
  pub ready_again : IsReady next
  ready_again = record {
    at_rest = rest_now seg f.s f.d f.m fs es r c;
    sessions = sessions_now seg f.s f.d f.m fs es r c h.sessions;
    lanes = λ a to. lane_of a to (equal_or_not a.0 f.s.0) (equal_or_not to.0 f.d.0);
    messages = λ a to. messages_at a to (equal_or_not a.0 f.s.0) (equal_or_not to.0 f.d.0);
  }
    where
      lane_of : (a to : Address) → (a.0 ≡ f.s.0) ⊎ (a.0 ≡ f.s.0 → ⊥) → (to.0 ≡ f.d.0) ⊎ (to.0 ≡ f.d.0 → ⊥) → IsReadyLane (lane_at next a to)
      lane_of a to (inl e) (inl q) = subst (λ (p : ℕ × ℕ). IsReadyLane (lane_at next (node p.0) (node p.1))) (λ k. (sym e k, sym q k)) (subst IsReadyLane (sym the_lane) c.ready)
      lane_of a to (inl e) (inr n) = subst IsReadyLane (sym (same_lane a.0 to.0 (λ p. n p.1))) (h.lanes a to)
      lane_of a to (inr n) q = subst IsReadyLane (sym (same_lane a.0 to.0 (λ p. n p.0))) (h.lanes a to)

      messages_at : (a to : Address) → (a.0 ≡ f.s.0) ⊎ (a.0 ≡ f.s.0 → ⊥) → (to.0 ≡ f.d.0) ⊎ (to.0 ≡ f.d.0 → ⊥) → MayEnd next to (lane_at next a to).pending
      messages_at a to (inl e) (inl q) = subst (λ (p : ℕ × ℕ). MayEnd next (node p.1) (lane_at next (node p.0) (node p.1)).pending) (λ k. (sym e k, sym q k))
          (subst (λ (l : Lane). MayEnd next f.d l.pending) (sym the_lane)
          (all_end seg f.s f.d f.m fs es r c f.d c.lane.pending (let all : MayEnd seg f.d (f.m ∷ c.lane.pending) = subst (MayEnd seg f.d) c.pending (h.messages f.s f.d) in all.2)))
      messages_at a to (inl e) (inr n) = subst (λ (l : Lane). MayEnd next to l.pending) (sym (same_lane a.0 to.0 (λ p. n p.1))) (all_end seg f.s f.d f.m fs es r c to (lane_at seg a to).pending (h.messages a to))
      messages_at a to (inr n) q = subst (λ (l : Lane). MayEnd next to l.pending) (sym (same_lane a.0 to.0 (λ p. n p.0))) (all_end seg f.s f.d f.m fs es r c to (lane_at seg a to).pending (h.messages a to))
