-- Where stations stand, and what of a segment the broadcasts of s show at a listener.
use Rattle.std.proofs.Common.{◌≡◌, ◌⊎◌, inl, inr, ℕ, ◌<◌, ◌==◌, List, [], ◌++◌, length, set, get_or, Option, Some, None, sym, ap, ◌∙◌, subst, arith, append-nil, length-set, get_or-set_same, get_or-set_other}
use Rattle.std.specs.Prelude.{slice_get, position}
use Rattle.std.proofs.lemmas.Option.{same_Some, slice_get_within, get_or_from_slice_get, slice_get-get_or}
use Rattle.std.specs.FinMap as finmap
use Rattle.pgn_ids.specs.declared.address.Address.{Address}
use Rattle.bus_order.specs.Bus.{Bus, frame_again}
use Rattle.lane_core.specs.Lane.{Lane, new_lane}
use Rattle.station_lanes.specs.LaneCalls.{lane_to}
use Rattle.station_lanes.specs.Lanes.{Lanes}
use Rattle.station_core.specs.Station.{Station, new_station}
use Rattle.segment_law.specs.Told as told
use Rattle.segment_law.specs.Segment.{Segment}
use Rattle.segment_law.specs.Reached.{IsReached}
use Rattle.segment_law.proofs.Reaching.{slice_get_same, slice_get_other}
use Rattle.record_law.proofs.Maps.{session_at, StaysOrEnds}
use Rattle.record_law.proofs.Tests.{equal_or_not}
use Rattle.broadcast_law.proofs.Buses.{ahead_of}
use Rattle.broadcast_law.proofs.Carried.{none_carried}
use Rattle.broadcast_law.proofs.Receive.{ends}
use Rattle.broadcast_law.proofs.Receptions.{key_all}
use Rattle.broadcast_law.proofs.Send.{queues_others}
use Rattle.broadcast_law.proofs.Stations.{IsOwn, Does}
use Rattle.broadcast_law.proofs.View.{View, Stands, GoesOn}

-- a station with this address stands there
abbrev pub IsAt : Segment → ℕ → Address → Type 0
IsAt seg x a = (st : Station) × (slice_get seg.stations x ≡ Some st) × (st.address.0 ≡ a.0)

abbrev pub AllOwn : Segment → Type 0
AllOwn seg = (j : ℕ) (st : Station) → slice_get seg.stations j ≡ Some st → IsOwn st.address st

-- and has its cursor
pub cursor_of : (seg : Segment) → IsReached seg → (j : ℕ) (b : Address) → IsAt seg j b → j < length seg.bus.cursors
cursor_of seg r j b h = let l : j < length seg.stations = slice_get_within seg.stations j h.0 h.1 in omega (arith, l, r.bus.cursors)

-- no two places have one address
pub one_place : (seg : Segment) → IsReached seg → (i x : ℕ) (a b : Address) → IsAt seg i a → IsAt seg x b → a.0 ≡ b.0 → i ≡ x
one_place seg r i x a b (u, at_i, is_a) (v, at_x, is_b) e =
    let same : u.address.0 ≡ v.address.0 = is_a ∙ e ∙ sym is_b in
    same_Some i x (sym (r.places i u at_i) ∙ ap (λ (n : ℕ). position (λ (z : Station). z.address.0 == n) seg.stations) same ∙ r.places x v at_x)

pub apart_places : (seg : Segment) (x y : ℕ) (a b : Address) → IsAt seg x a → IsAt seg y b → (a.0 ≡ b.0 → ⊥) → x ≡ y → ⊥
apart_places seg x y a b (u, at_x, is_a) (v, at_y, is_b) n e =
    let same : u ≡ v = same_Some u v (sym at_x ∙ ap (slice_get seg.stations) e ∙ at_y) in
    n (sym is_a ∙ ap (λ (z : Station). z.address.0) same ∙ is_b)

-- a station changes but for its address
module _ (seg next : Segment) (i : ℕ) (st new : Station) (at : slice_get seg.stations i ≡ Some st) (address : new.address ≡ st.address) (stations : next.stations ≡ set seg.stations i new) where
  here : slice_get next.stations i ≡ Some new
  here = ap (λ ss. slice_get ss i) stations ∙ slice_get_same seg.stations i st new at address

  pub own_next : AllOwn seg → IsOwn st.address new → AllOwn next
  own_next all h j u e = by (equal_or_not j i)
    where
      by : (j ≡ i) ⊎ (j ≡ i → ⊥) → IsOwn u.address u
      by (inl q) =
          let is : new ≡ u = same_Some new u (sym here ∙ ap (slice_get next.stations) (sym q) ∙ e) in
          subst (λ (z : Station). IsOwn z.address z) is (subst (λ (x : Address). IsOwn x new) (sym address) h)
      by (inr n) = all j u (slice_get_other seg.stations i st new at address j u n (sym (ap (λ ss. slice_get ss j) stations) ∙ e))

  pub at_next : (x : ℕ) (a : Address) → IsAt seg x a → IsAt next x a
  at_next x a (u, e, is) = by (equal_or_not x i)
    where
      by : (x ≡ i) ⊎ (x ≡ i → ⊥) → IsAt next x a
      by (inl q) =
          let same : u ≡ st = same_Some u st (sym e ∙ ap (slice_get seg.stations) q ∙ at) in
          (new, ap (slice_get next.stations) q ∙ here, ap (λ (z : Address). z.0) address ∙ sym (ap (λ (z : Station). z.address.0) same) ∙ is)
      by (inr n) =
          let inside : x < length seg.stations = slice_get_within seg.stations x u e in
          let inside' : x < length (set seg.stations i new) = omega (arith, inside, length-set seg.stations i new) in
          (u, ap (λ ss. slice_get ss x) stations ∙ slice_get-get_or (set seg.stations i new) x u inside' ∙ ap (λ (z : Station). Some z) (get_or-set_other seg.stations i x new u n ∙ get_or_from_slice_get seg.stations x u u e), is)

  pub at_before : (x : ℕ) (a : Address) → IsAt next x a → IsAt seg x a
  at_before x a (u, e, is) = by (equal_or_not x i)
    where
      by : (x ≡ i) ⊎ (x ≡ i → ⊥) → IsAt seg x a
      by (inl q) =
          let same : u ≡ new = same_Some u new (sym e ∙ ap (slice_get next.stations) q ∙ here) in
          (st, ap (slice_get seg.stations) q ∙ at, sym (ap (λ (z : Address). z.0) address) ∙ sym (ap (λ (z : Station). z.address.0) same) ∙ is)
      by (inr n) = (u, slice_get_other seg.stations i st new at address x u n (sym (ap (λ ss. slice_get ss x) stations) ∙ e), is)

-- What is shown

module _ (s : Address) where
  abbrev pub parts : (sender receiver : Station) → Bus → ℕ → (sent given : List told.Message) → View
  parts xs ys bus y sent given = record {
    lane = lane_to s xs.lanes 255;
    queue = xs.queue;
    ahead = ahead_of bus y;
    again = frame_again bus y;
    session = session_at ys.sessions (key_all s);
    sent = sent;
    given = given;
  }

  abbrev pub station_in : List Station → ℕ → Station
  station_in stations x = get_or stations x (new_station s)

  abbrev pub view : (x y : ℕ) → Segment → (sent given : List told.Message) → View
  view x y seg sent given = parts (station_in seg.stations x) (station_in seg.stations y) seg.bus y sent given

  pub same_lane : (lanes before : Lanes) → finmap.get lanes 255 ≡ finmap.get before 255 → lane_to s lanes 255 ≡ lane_to s before 255
  same_lane lanes before e = ap (λ (o : Option Lane). elim o as (λ (_ : Option Lane). Lane) [ None ↦ new_lane s.0 255 | Some l ↦ l ]) e

  -- a station changes, in each of its three roles
  module _ (x y : ℕ) (apart : x ≡ y → ⊥) (stations : List Station) (i : ℕ) (st new : Station) (at : slice_get stations i ≡ Some st) (bus : Bus) (sent given more : List told.Message) where
    pub at_it : (j : ℕ) → i ≡ j → station_in stations j ≡ st
    at_it j e = get_or_from_slice_get stations j st (new_station s) (ap (slice_get stations) (sym e) ∙ at)

    new_it : (j : ℕ) → i ≡ j → station_in (set stations i new) j ≡ new
    new_it j e = ap (station_in (set stations i new)) (sym e) ∙ get_or-set_same stations i new (new_station s) (slice_get_within stations i st at)

    old_it : (j : ℕ) → (i ≡ j → ⊥) → station_in (set stations i new) j ≡ station_in stations j
    old_it j n = get_or-set_other stations i j new (new_station s) (λ e. n (sym e))

    none_more : more ≡ [] → given ++ more ≡ given
    none_more e = ap (λ ts. given ++ ts) e ∙ append-nil given

    pub in_roles : (i ≡ x → Stands s (parts new (station_in stations y) bus y sent given))
        → (i ≡ y → Stands s (parts (station_in stations x) new bus y sent (given ++ more)))
        → ((i ≡ x → ⊥) → (i ≡ y → ⊥) → Stands s (parts (station_in stations x) (station_in stations y) bus y sent given))
        → ((i ≡ y → ⊥) → more ≡ [])
        → Stands s (parts (station_in (set stations i new) x) (station_in (set stations i new) y) bus y sent (given ++ more))
    in_roles sends receives other none = by (equal_or_not i x) (equal_or_not i y)
      where
        by : (i ≡ x) ⊎ (i ≡ x → ⊥) → (i ≡ y) ⊎ (i ≡ y → ⊥) → Stands s (parts (station_in (set stations i new) x) (station_in (set stations i new) y) bus y sent (given ++ more))
        by (inl e) o = let n : i ≡ y → ⊥ = λ q. apart (sym e ∙ q) in
            subst (Stands s) (sym (λ k. parts (new_it x e k) (old_it y n k) bus y sent (none_more (none n) k))) (sends e)
        by (inr n) (inl e) = subst (Stands s) (sym (λ k. parts (old_it x n k) (new_it y e k) bus y sent (given ++ more))) (receives e)
        by (inr n) (inr m) = subst (Stands s) (sym (λ k. parts (old_it x n k) (old_it y m k) bus y sent (none_more (none m) k))) (other n m)

    -- the sender does something that is nothing of its broadcasts
    pub sends_calmly : GoesOn → Does s st new → i ≡ x → Stands s (parts (station_in stations x) (station_in stations y) bus y sent given) → Stands s (parts new (station_in stations y) bus y sent given)
    sends_calmly goes d e h =
        let v : View = parts (station_in stations x) (station_in stations y) bus y sent given in
        let q : Stands s (record v { queue = (station_in stations x).queue ++ d.frames }) = queues_others s goes v d.frames h (none_carried s s d.frames d.quiet) in
        let lane : lane_to s new.lanes 255 ≡ lane_to s (station_in stations x).lanes 255 = same_lane new.lanes st.lanes d.lane ∙ sym (ap (λ (z : Station). lane_to s z.lanes 255) (at_it x e)) in
        let queue : new.queue ≡ (station_in stations x).queue ++ d.frames = d.queue ∙ sym (ap (λ (z : Station). z.queue ++ d.frames) (at_it x e)) in
        subst (Stands s) (sym (λ k. (let w : View = record v { lane = lane k; queue = queue k } in w))) q

    -- the session of the broadcasts is as it was or ends
    pub receives_calmly : GoesOn → StaysOrEnds (session_at new.sessions (key_all s)) (session_at st.sessions (key_all s)) → more ≡ [] → i ≡ y → Stands s (parts (station_in stations x) (station_in stations y) bus y sent given) → Stands s (parts (station_in stations x) new bus y sent (given ++ more))
    receives_calmly goes o none e h = by o
      where
        v : View
        v = parts (station_in stations x) (station_in stations y) bus y sent given

        by : StaysOrEnds (session_at new.sessions (key_all s)) (session_at st.sessions (key_all s)) → Stands s (parts (station_in stations x) new bus y sent (given ++ more))
        by (inl q) = subst (Stands s) (sym (λ k. (let w : View = record v { session = q k; given = none_more none k } in w))) (ends s goes v h.0 h.1.carries)
        by (inr q) = subst (Stands s) (sym (λ k. (let w : View = record v { session = (q ∙ sym (ap (λ (z : Station). session_at z.sessions (key_all s)) (at_it y e))) k; given = none_more none k } in w))) h
