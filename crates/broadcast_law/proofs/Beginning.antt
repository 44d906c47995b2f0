-- The broadcasts of a new segment: nothing was sent, and nothing is under way.
use Rattle.std.proofs.Common.{◌≡◌, ◌⊎◌, inl, inr, ℕ, zero, suc, ◌+◌, ◌-◌, ◌==◌, nat_lt, true, cond, ◌||◌, List, [], ◌∷◌, length, drop, Option, Some, None, refl, sym, ap, ◌∙◌, subst, arith, eqb-true}
use Rattle.std.specs.Prelude.{slice_get}
use Rattle.std.specs.Option.{option_map}
use Rattle.std.specs.List.{list_any}
use Rattle.std.specs.Ordering.{nat_cmp}
use Rattle.std.proofs.lemmas.Option.{same_Some, none-some, slice_get-map, get_or_from_slice_get}
use Rattle.std.specs.FinMap as finmap
use Rattle.std.specs.FinMap.{get-empty}
use Rattle.pgn_ids.specs.declared.address.Address.{Address}
use Rattle.bus_order.specs.Bus.{Cursor, start, cursor_at, frame_at, frame_again}
use Rattle.lane_core.specs.Lane.{Lane, new_lane}
use Rattle.session_table.specs.declared.incoming.Incoming.{Incoming}
use Rattle.station_lanes.specs.LaneCalls.{lane_to}
use Rattle.station_core.specs.Station.{Station, new_station}
use Rattle.segment_law.specs.Segment.{Segment, new_segment, rising, rising_insert}
use Rattle.record_law.proofs.Maps.{session_at, state_empty}
use Rattle.record_law.proofs.Segments.{same_address, new_at, start_at}
use Rattle.record_law.proofs.Tests.{equal_or_not, on_test}
use Rattle.lane_law.specs.Stream as stream
use Rattle.broadcast_law.proofs.Buses.{ahead_of}
use Rattle.broadcast_law.proofs.Places.{IsAt, AllOwn, parts, station_in, view}
use Rattle.broadcast_law.proofs.Receptions.{key_all}
use Rattle.broadcast_law.proofs.Stations.{IsOwn, new_is_own}
use Rattle.broadcast_law.proofs.View.{View, Stands}

pub new_own : (addresses : List Address) → AllOwn (new_segment addresses)
new_own addresses j st e = subst (IsOwn st.address) (sym (new_at (rising addresses) j st e)) (new_is_own st.address)

-- Where a station stands

abbrev IsIn : List Address → Address → Type 0
IsIn xs s = (j : ℕ) × (b : Address) × (slice_get xs j ≡ Some b) × (b.0 ≡ s.0)

module _ (s : Address) where
  inserted : (a : Address) (xs : List Address) → a.0 ≡ s.0 → IsIn (rising_insert a xs) s
  inserted a [] e = (0, a, refl, e)
  inserted a (b ∷ xs) e = on_test (λ t. IsIn (cond t (a ∷ b ∷ xs) (b ∷ rising_insert a xs)) s) (nat_lt a.0 b.0)
      (λ _. (0, a, refl, e))
      (λ _. let h : IsIn (rising_insert a xs) s = inserted a xs e in (suc h.0, h.1, h.2, h.3))

  still_in : (a : Address) (xs : List Address) → IsIn xs s → IsIn (rising_insert a xs) s
  still_in a [] (j, b, g, e) = absurd (none-some b g)
  still_in a (c ∷ xs) (j, b, g, e) = on_test (λ t. IsIn (cond t (a ∷ c ∷ xs) (c ∷ rising_insert a xs)) s) (nat_lt a.0 c.0)
      (λ _. (suc j, b, g, e))
      (λ _. by (λ k q. still_in a xs (k, b, q, e)) j g)
    where
      by : ((k : ℕ) → slice_get xs k ≡ Some b → IsIn (rising_insert a xs) s) → (j : ℕ) → slice_get (c ∷ xs) j ≡ Some b → IsIn (c ∷ rising_insert a xs) s
      by more zero q = (0, b, q, e)
      by more (suc k) q = let h : IsIn (rising_insert a xs) s = more k q in (suc h.0, h.1, h.2, h.3)

  rising_has : (xs : List Address) → list_any (λ b. s.0 == b.0) xs ≡ true → IsIn (rising xs) s
  rising_has [] e = absurd (cc)
  rising_has (a ∷ xs) e = on_test (λ t. (s.0 == a.0) ≡ t → (t || list_any (λ b. s.0 == b.0) xs) ≡ true → IsIn (rising_insert a (rising xs)) s) (s.0 == a.0)
      (λ _ t _. inserted a (rising xs) (sym (eqb-true s.0 a.0 t)))
      (λ _ _ q. still_in a (rising xs) (rising_has xs q)) refl e

  pub stands_at : (addresses : List Address) → list_any (λ b. s.0 == b.0) addresses ≡ true → (x : ℕ) × IsAt (new_segment addresses) x s
  stands_at addresses e =
      let h : IsIn (rising addresses) s = rising_has addresses e in
      (h.0, (new_station h.1, slice_get-map new_station (rising addresses) h.0 ∙ ap (option_map new_station) h.2, h.3))

  abbrev HasAt : List Station → ℕ → Type 0
  HasAt xs x = (st : Station) × (slice_get xs x ≡ Some st) × (st.address.0 ≡ s.0)

  abbrev Anywhere : List Station → Type 0
  Anywhere xs = ((x : ℕ) × HasAt xs x) ⊎ ((x : ℕ) → HasAt xs x → ⊥)

  anywhere_more : (z : Station) (xs : List Station) → (z.address.0 ≡ s.0) ⊎ (z.address.0 ≡ s.0 → ⊥) → Anywhere xs → Anywhere (z ∷ xs)
  anywhere_more z xs (inl e) o = inl (0, (z, refl, e))
  anywhere_more z xs (inr n) (inl h) = inl (suc h.0, h.1)
  anywhere_more z xs (inr n) (inr m) = inr none
    where
      none : (x : ℕ) → HasAt (z ∷ xs) x → ⊥
      none zero h = n (ap (λ (u : Station). u.address.0) (same_Some z h.0 h.1) ∙ h.2)
      none (suc x) h = m x h

  anywhere : (xs : List Station) → Anywhere xs
  anywhere [] = inr (λ x h. none-some h.0 h.1)
  anywhere (z ∷ xs) = anywhere_more z xs (equal_or_not z.address.0 s.0) (anywhere xs)

  -- at some place, or at none
  pub somewhere : (seg : Segment) → ((x : ℕ) × IsAt seg x s) ⊎ ((x : ℕ) → IsAt seg x s → ⊥)
  somewhere seg = anywhere seg.stations

  -- what is shown first
  abbrev first : View
  first = record { lane = new_lane s.0 255; queue = []; ahead = []; again = None; session = None; sent = []; given = [] }

  first_stands : stream.IsReached stream.empty_stream → Stands s first
  first_stands reached = (
    stream.empty_stream,
    record {
      carries = record {
        reached = reached;
        clean = tt;
        sent = refl;
        given = refl;
        forward = refl;
        again = refl;
        sender = record { from = refl; to = refl; count = refl; last = omega arith; standing = refl; under_way = tt };
      };
      session = tt;
    },
  )

  pub new_stands : (addresses : List Address) (x y : ℕ) (b : Address) → IsAt (new_segment addresses) x s → IsAt (new_segment addresses) y b → stream.IsReached stream.empty_stream → Stands s (view s x y (new_segment addresses) [] [])
  new_stands addresses x y b (xs, at_x, is_x) (ys, at_y, is_y) reached = subst (Stands s) (sym shown) (first_stands reached)
    where
      new : Segment
      new = new_segment addresses

      xs_is : station_in s new.stations x ≡ new_station s
      xs_is = get_or_from_slice_get new.stations x xs (new_station s) at_x ∙ new_at (rising addresses) x xs at_x ∙ ap new_station (same_address xs.address s is_x)

      ys_is : station_in s new.stations y ≡ new_station ys.address
      ys_is = get_or_from_slice_get new.stations y ys (new_station s) at_y ∙ new_at (rising addresses) y ys at_y

      cursor : cursor_at new.bus y ≡ start
      cursor = start_at (length addresses) y

      lane : lane_to s finmap.empty 255 ≡ new_lane s.0 255
      lane = ap (λ (o : Option Lane). elim o as (λ (_ : Option Lane). Lane) [ None ↦ new_lane s.0 255 | Some z ↦ z ]) (get-empty {X = Lane} nat_cmp 255)

      session : session_at finmap.empty (key_all s) ≡ None
      session = ap (option_map (λ (v : List ℕ × Incoming). v.1)) (state_empty (key_all s))

      ahead : ahead_of new.bus y ≡ []
      ahead = ap (λ (c : Cursor). drop (c.place + 1 - 1) []) cursor

      again : frame_again new.bus y ≡ None
      again = ap (λ (c : Cursor). cond c.repeatable (frame_at new.bus c.place) None) cursor

      shown : view s x y new [] [] ≡ first
      shown = (λ k. parts s (xs_is k) (ys_is k) new.bus y [] []) ∙ (λ k. (let v : View = record { lane = lane k; queue = []; ahead = ahead k; again = again k; session = session k; sent = []; given = [] } in v))
