-- The lanes that the places hold, read and changed at one destination.
use Rattle.std.proofs.Common.{◌≡◌, ◌≢◌, ℕ, zero, suc, ◌<◌, Bool, true, false, cond, List, length, Option, Some, None, nat_lt, ◌==◌, refl, sym, ap, ◌∙◌, arith, get_or-set_same, get_or-set_other, replicate}
use Rattle.std.proofs.Math.ListN.{set}
use Rattle.std.proofs.lemmas.List.{get_or_past}
use Rattle.std.proofs.lemmas.Bool.{eqb-true, eqb-false, ltb-false, lt-ltb, le-ltb}
use Rattle.std.proofs.lemmas.Bool.Decides.{nat_tests}
use Rattle.std.proofs.lemmas.Grind.{common_steps}
use Rattle.std.specs.Ordering.{nat_cmp, eq_by_cmp}
use Rattle.std.specs.Cmp.{nat_cmp_total, unsigned_tied}
use Rattle.std.specs.FinMap as map
use Rattle.std.specs.FinMap.{get-empty, get-insert, same_map, nat_cmp-IsAntisymmetric}
use Rattle.lane_core.specs.Lane.{Lane}
use Rattle.station_lanes.specs.Lanes.{Lanes}
use Rattle.station_lanes.specs.LaneSlots.{slot_at, with_slot, lanes_below}

-- what the places below n hold
abbrev below : List (Option Lane) → ℕ → ℕ → Option Lane
below slots n q = cond (nat_lt q n) (slot_at slots q) None

get-with_slot : (to : ℕ) (o : Option Lane) (lanes : Lanes) (q : ℕ) → map.get lanes to ≡ None → map.get (with_slot to o lanes) q ≡ cond (q == to) o (map.get lanes q)
get-with_slot to None lanes q none = by (q == to) refl
  where
    by : (b : Bool) → (q == to) ≡ b → map.get lanes q ≡ cond b None (map.get lanes q)
    by true e = ap (map.get lanes) (eqb-true q to e) ∙ none
    by false e = refl
get-with_slot to (Some lane) lanes q none = get-insert nat_cmp_total lanes to lane q ∙ ap (λ b. cond b (Some lane) (map.get lanes q)) (unsigned_tied q to)

-- one place more
step : (slots : List (Option Lane)) (n q : ℕ) → map.get (lanes_below slots n) q ≡ cond (nat_lt q n) (slot_at slots q) None → (b : Bool) → (q == n) ≡ b → cond b (slot_at slots n) (map.get (lanes_below slots n) q) ≡ cond (nat_lt q (suc n)) (slot_at slots q) None
step slots n q old true e =
    let same : q ≡ n = eqb-true q n e in
    ap (slot_at slots) (sym same) ∙ sym (ap (λ b. cond b (slot_at slots q) None) (lt-ltb q (suc n) (omega arith)))
step slots n q old false e =
    let apart : q ≢ n = eqb-false q n e in
    let tests : nat_lt q n ≡ nat_lt q (suc n) = grind (arith, nat_tests) in
    old ∙ ap (λ b. cond b (slot_at slots q) None) tests

-- nothing stands at or above the number
get-lanes_below : (slots : List (Option Lane)) (n q : ℕ) → map.get (lanes_below slots n) q ≡ cond (nat_lt q n) (slot_at slots q) None
unfolding lanes_below
get-lanes_below slots zero q = get-empty nat_cmp q ∙ sym (ap (λ b. cond b (slot_at slots q) None) (le-ltb q 0 (omega arith)))
get-lanes_below slots (suc n) q =
    get-with_slot n (slot_at slots n) (lanes_below slots n) q (get-lanes_below slots n n ∙ ap (λ b. cond b (slot_at slots n) None) (le-ltb n n (omega arith)))
    ∙ step slots n q (get-lanes_below slots n q) (q == n) refl

-- what stands at a destination is what its place holds
pub get_lanes : (slots : List (Option Lane)) (q : ℕ) → map.get (lanes_below slots (length slots)) q ≡ slot_at slots q
get_lanes slots q = get-lanes_below slots (length slots) q ∙ by (nat_lt q (length slots)) refl
  where
    by : (b : Bool) → nat_lt q (length slots) ≡ b → cond b (slot_at slots q) None ≡ slot_at slots q
    by true e = refl
    by false e = sym (get_or_past slots q None (ltb-false q (length slots) e))

module _ (slots : List (Option Lane)) (to : ℕ) (here : to < length slots) where
  slot_at-set : (o : Option Lane) (q : ℕ) → slot_at (set slots to o) q ≡ cond (q == to) o (slot_at slots q)
  slot_at-set o q = by (q == to) refl
    where
      by : (b : Bool) → (q == to) ≡ b → slot_at (set slots to o) q ≡ cond b o (slot_at slots q)
      by true e = ap (slot_at (set slots to o)) (eqb-true q to e) ∙ get_or-set_same slots to o None here
      by false e = get_or-set_other slots to q o None (eqb-false q to e)

  after : (o : Option Lane) (q : ℕ) → map.get (lanes_below (set slots to o) (length (set slots to o))) q ≡ cond (eq_by_cmp nat_cmp q to) o (map.get (lanes_below slots (length slots)) q)
  after o q =
      get_lanes (set slots to o) q ∙ slot_at-set o q
      ∙ ap (λ b. cond b o (slot_at slots q)) (sym (unsigned_tied q to))
      ∙ ap (cond (eq_by_cmp nat_cmp q to) o) (sym (get_lanes slots q))

  pub lanes_put : (lane : Lane) → lanes_below (set slots to (Some lane)) (length (set slots to (Some lane))) ≡ map.insert (lanes_below slots (length slots)) to lane
  lanes_put lane = same_map nat_cmp_total nat_cmp-IsAntisymmetric _ _ (λ q. after (Some lane) q ∙ sym (get-insert nat_cmp_total _ to lane q))

  -- and the lanes stand at their destinations again
  pub in_place_after : (o : Option Lane) → ((q : ℕ) (lane : Lane) → slot_at slots q ≡ Some lane → lane.to ≡ q) → ((lane : Lane) → o ≡ Some lane → lane.to ≡ to) → (q : ℕ) (lane : Lane) → slot_at (set slots to o) q ≡ Some lane → lane.to ≡ q
  in_place_after o old new q lane is = by (q == to) refl (sym (slot_at-set o q) ∙ is)
    where
      by : (b : Bool) → (q == to) ≡ b → cond b o (slot_at slots q) ≡ Some lane → lane.to ≡ q
      by true e h = new lane h ∙ sym (eqb-true q to e)
      by false e h = old q lane h

  pub put_is : (after_slots : List (Option Lane)) (lanes : Lanes) (lane : Lane) → after_slots ≡ set slots to (Some lane) → lanes_below slots (length slots) ≡ lanes → lanes_below after_slots (length after_slots) ≡ map.insert lanes to lane
  put_is after_slots lanes lane e view = ap (λ (s : List (Option Lane)). lanes_below s (length s)) e ∙ lanes_put lane ∙ ap (λ m. map.insert m to lane) view

-- no lane stands in empty places
pub empty_is : (slots : List (Option Lane)) (n : ℕ) → slots ≡ replicate n None → lanes_below slots (length slots) ≡ map.empty
empty_is slots n e =
    same_map nat_cmp_total nat_cmp-IsAntisymmetric _ _ (λ q. get_lanes slots q ∙ ap (λ (s : List (Option Lane)). slot_at s q) e ∙ nothing n q ∙ sym (get-empty nat_cmp q))
  where
    nothing : (n q : ℕ) → slot_at (replicate n None) q ≡ None
    nothing n q = grind (arith, common_steps)
