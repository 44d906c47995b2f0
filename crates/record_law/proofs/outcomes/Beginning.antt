-- At the beginning nothing was sent in any lane.
use Rattle.std.proofs.Common.{◌≡◌, ℕ, zero, suc, List, [], ◌∷◌, Option, Some, None, refl, sym, ap, ◌∙◌, subst}
use Rattle.std.specs.Prelude.{map, slice_get, unwrap_or}
use Rattle.std.specs.FinMap as finmap
use Rattle.std.specs.FinMap.{get-empty}
use Rattle.std.specs.Ordering.{nat_cmp}
use Rattle.pgn_ids.specs.declared.address.Address.{Address}
use Rattle.lane_core.specs.Lane.{Lane, new_lane}
use Rattle.station_lanes.specs.Lanes.{Lanes}
use Rattle.station_lanes.specs.LaneCalls.{lane_to}
use Rattle.station_core.specs.Station.{Station, new_station}
use Rattle.segment_law.specs.Segment.{new_segment, place_of, lane_at, rising}
use Rattle.record_law.proofs.outcomes.Books.{Books}

module _ (s d : Address) where
  -- no lane yet
  fresh : (a : Address) (lanes : Lanes) → lanes ≡ finmap.empty → lane_to a lanes d.0 ≡ new_lane a.0 d.0
  fresh a lanes e = ap (λ (x : Lanes). lane_to a x d.0) e ∙ ap (λ (o : Option Lane). elim o as (λ (_ : Option Lane). Lane) [ None ↦ new_lane a.0 d.0 | Some lane ↦ lane ]) (get-empty {X = Lane} nat_cmp d.0)

  found_new : (addresses : List Address) (j : ℕ) → (unwrap_or (slice_get (map new_station addresses) j) (new_station s)).lanes ≡ finmap.empty
  found_new [] j = refl
  found_new (a ∷ addresses) zero = refl
  found_new (a ∷ addresses) (suc j) = found_new addresses j

  abbrev led : List Address → Option ℕ → Station
  led addresses o = unwrap_or (elim o as (λ (_ : Option ℕ). Option Station) [ None ↦ None | Some j ↦ slice_get (map new_station addresses) j ]) (new_station s)

  led_new : (addresses : List Address) (o : Option ℕ) → (led addresses o).lanes ≡ finmap.empty
  led_new addresses None = refl
  led_new addresses (Some j) = found_new addresses j

  pub new_at : (addresses : List Address) → (a : ℕ) × (lane_at (new_segment addresses) s d ≡ new_lane a d.0)
  new_at addresses =
      let st : Station = led (rising addresses) (place_of (new_segment addresses) s) in
      (st.address.0, fresh st.address st.lanes (led_new (rising addresses) (place_of (new_segment addresses) s)))

  pub new_books : (addresses : List Address) → Books (lane_at (new_segment addresses) s d) []
  new_books addresses = let new : (a : ℕ) × (lane_at (new_segment addresses) s d ≡ new_lane a d.0) = new_at addresses in subst (λ (l : Lane). Books l []) (sym new.1) (λ n. refl)

  pub new_sent : (addresses : List Address) → (lane_at (new_segment addresses) s d).sent ≡ 0
  new_sent addresses = let new : (a : ℕ) × (lane_at (new_segment addresses) s d ≡ new_lane a d.0) = new_at addresses in ap (λ (l : Lane). l.sent) new.1
