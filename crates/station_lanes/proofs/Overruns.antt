-- After an overrun no connection is under way: each lane has none once it was overrun, and later overruns leave it alone.
use Rattle.std.proofs.Common.{◌≡◌, ℕ, zero, suc, ◌<◌, ◌≤◌, ◌==◌, ◌≢◌, Bool, true, false, cond, Option, Some, None, refl, sym, ap, ◌∙◌, subst, arith}
use Rattle.std.proofs.lemmas.Bool.{eqb-true, eqb-false}
use Rattle.std.proofs.lemmas.Bool.Decides.{nat_tests}
use Rattle.std.specs.Cmp.{nat_cmp_total, unsigned_tied}
use Rattle.std.specs.Ordering.{nat_cmp, eq_by_cmp}
use Rattle.std.specs.FinMap as map
use Rattle.std.specs.FinMap.{get-insert}
use Rattle.lane_core.specs.declared.place.UnderWay.{UnderWay}
use Rattle.lane_core.specs.declared.place.UnderWay.TheVariants.{Nothing, Broadcast, Connection}
use Rattle.lane_core.specs.Lane.{Lane}
use Rattle.lane_core.specs.Overrun.{overrun, overrun_by}
use Rattle.station_lanes.specs.Lanes.{Lanes}
use Rattle.station_lanes.specs.LaneReaders.{is_connection, has_connection_to, HasNoConnection, overrun_lanes}

-- a lane that was overrun
no_connection : (u : UnderWay) (lane : Lane) → lane.under_way ≡ u → is_connection (overrun_by u lane).0.under_way ≡ false
no_connection Nothing lane e = ap is_connection e
no_connection (Broadcast s) lane e = ap is_connection e
no_connection (Connection s) lane e = refl

abbrev is_found : Option Lane → Bool
is_found o = elim o as (λ _. Bool) [ None ↦ false | Some lane ↦ is_connection lane.under_way ]

module _ (m : Lanes) (n : ℕ) where
  abbrev over : Option Lane → Lanes
  over o = elim o as (λ _. Lanes) [ None ↦ m | Some lane ↦ map.insert m n (overrun lane).0 ]

  -- the lane to this destination
  own : (o : Option Lane) → map.get m n ≡ o → is_found (map.get (over o) n) ≡ false
  own None e = ap is_found e
  own (Some lane) e =
      ap is_found (get-insert nat_cmp_total m n (overrun lane).0 n ∙ ap (λ b. cond b (Some (overrun lane).0) (map.get m n)) here)
      ∙ no_connection lane.under_way lane refl
    where
      here : eq_by_cmp nat_cmp n n ≡ true
      here = unsigned_tied n n ∙ grind (arith, nat_tests)

  -- any other
  other : (to : ℕ) → to ≢ n → (o : Option Lane) → map.get (over o) to ≡ map.get m to
  other to apart None = refl
  other to apart (Some lane) = get-insert nat_cmp_total m n (overrun lane).0 to ∙ ap (λ b. cond b (Some (overrun lane).0) (map.get m to)) past
    where
      past : eq_by_cmp nat_cmp to n ≡ false
      past = unsigned_tied to n ∙ grind (arith, nat_tests)

-- below the number that was reached there is none
ends_below : (lanes : Lanes) (n to : ℕ) → to < n → has_connection_to (overrun_lanes lanes n) to ≡ false
unfolding overrun_lanes
ends_below lanes zero to below = absurd (omega arith)
ends_below lanes (suc n) to below = by (to == n) refl (ends_below lanes n to)
  where
    m : Lanes
    m = overrun_lanes lanes n

    by : (b : Bool) → (to == n) ≡ b → (to < n → has_connection_to m to ≡ false) → is_found (map.get (over m n (map.get m n)) to) ≡ false
    by true e before = subst (λ x. is_found (map.get (over m n (map.get m n)) x) ≡ false) (sym (eqb-true to n e)) (own m n (map.get m n) refl)
    by false e before =
        let apart : to ≢ n = eqb-false to n e in
        ap is_found (other m n to apart (map.get m n)) ∙ before (omega arith)

-- after those of all addresses there is none to any
pub overrun_ends_all : (before after : Lanes) (n : ℕ) → after ≡ overrun_lanes before n → 256 ≤ n → HasNoConnection after
overrun_ends_all before after n e all to below = ap (λ m. has_connection_to m to) e ∙ ends_below before n to (omega arith)
