-- The lanes of a station by destination.
use Rattle.std.proofs.Common.{◌≡◌, ℕ, Bool, true, false, cond, Some, refl, sym, ap, ◌∙◌}
use Rattle.std.specs.Cmp.{nat_cmp_total, unsigned_tied}
use Rattle.std.proofs.lemmas.Bool.{eqb-true}
use Rattle.std.specs.Ordering.{nat_cmp, eq_by_cmp}
use Rattle.std.specs.FinMap as map
use Rattle.std.specs.FinMap.{get-insert, same_map, nat_cmp-IsAntisymmetric}
use Rattle.lane_core.specs.Lane.{Lane}
use Rattle.station_lanes.specs.Lanes.{Lanes}

-- what is put back as it was changes nothing
pub insert_same : (lanes : Lanes) (to : ℕ) (lane : Lane) → map.get lanes to ≡ Some lane → map.insert lanes to lane ≡ lanes
insert_same lanes to lane there = same_map nat_cmp_total nat_cmp-IsAntisymmetric _ _ (λ q. get-insert nat_cmp_total lanes to lane q ∙ by q (eq_by_cmp nat_cmp q to) refl)
  where
    by : (q : ℕ) (b : Bool) → eq_by_cmp nat_cmp q to ≡ b → cond b (Some lane) (map.get lanes q) ≡ map.get lanes q
    by q true e = sym there ∙ ap (map.get lanes) (sym (eqb-true q to (sym (unsigned_tied q to) ∙ e)))
    by q false e = refl
