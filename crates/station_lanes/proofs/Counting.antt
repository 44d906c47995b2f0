-- The least number that passes, and recursions up to a number, one step on.
use Rattle.std.proofs.Common.{◌≡◌, ◌≢◌, ℕ, zero, suc, ◌+◌, ◌<◌, ◌≤◌, ◌==◌, Bool, true, false, [], ◌++◌, Option, Some, None, refl, sym, ap, ◌∙◌, subst, arith, add-one}
use Rattle.std.proofs.lemmas.Bool.{eqb-true, eqb-false}
use Rattle.pgn_ids.specs.declared.address.Address.{Address}
use Rattle.lane_core.specs.Overrun.{overrun}
use Rattle.station_lanes.specs.Lanes.{Lanes}
use Rattle.station_lanes.specs.LaneCalls.{stepped_lanes, step_at, outcome_of}
use Rattle.station_lanes.specs.LaneReaders.{found_or, least_below, NonePasses, overrun_lanes, overrun_events}

found_none : (b : Bool) (n : ℕ) → b ≡ false → found_or None b n ≡ None
found_none b n e = ap (λ c. found_or None c n) e

found_this : (b : Bool) (n : ℕ) → b ≡ true → found_or None b n ≡ Some n
found_this b n e = ap (λ c. found_or None c n) e

-- where none below passes and this one doesn't, none up to it does
pub none_below : (test : ℕ → Bool) (i : ℕ) → least_below test i ≡ None → test i ≡ false → least_below test (i + 1) ≡ None
unfolding least_below
none_below test i none fails = rw add-one (ap (λ o. found_or o (test i) i) none ∙ found_none (test i) i fails)

found_still : (o : Option ℕ) (b : Bool) (n : ℕ) → b ≡ false → found_or o b n ≡ o
found_still None b n e = found_none b n e
found_still (Some k) b n e = refl

-- where none from one number up to another passes, the least is the same
pub same_up_to : (test : ℕ → Bool) (i j : ℕ) → i ≤ j → NonePasses test i j → least_below test j ≡ least_below test i
unfolding least_below
same_up_to test i zero le rest =
    let same : 0 ≡ i = omega (arith, le) in
    ap (least_below test) same
same_up_to test i (suc j) le rest = by (i == suc j) refl (λ within. same_up_to test i j within (λ n from below. rest n from (omega arith)))
  where
    by : (b : Bool) → (i == suc j) ≡ b → (i ≤ j → least_below test j ≡ least_below test i) → found_or (least_below test j) (test j) j ≡ least_below test i
    by true e before = ap (least_below test) (sym (eqb-true i (suc j) e))
    by false e before =
        let apart : i ≢ suc j = eqb-false i (suc j) e in
        found_still (least_below test j) (test j) j (rest j (omega arith) (omega arith)) ∙ before (omega arith)

-- tests that agree below a number have the same least
pub least_same : (test other : ℕ → Bool) (n : ℕ) → ((i : ℕ) → i < n → test i ≡ other i) → least_below test n ≡ least_below other n
unfolding least_below
least_same test other zero same = refl
least_same test other (suc n) same =
    ap (λ o. found_or o (test n) n) (least_same test other n (λ i below. same i (omega (arith, below)))) ∙ ap (λ b. found_or (least_below other n) b n) (same n (omega arith))

-- where none below passes and this one does, it is the least
pub least_is : (test : ℕ → Bool) (i n : ℕ) → least_below test i ≡ None → test i ≡ true → i < n → least_below test n ≡ Some i
unfolding least_below
least_is test i zero none passes below = absurd (omega arith)
least_is test i (suc m) none passes below = by (i == m) refl (least_is test i m none passes)
  where
    by : (b : Bool) → (i == m) ≡ b → (i < m → least_below test m ≡ Some i) → found_or (least_below test m) (test m) m ≡ Some i
    by true e before =
        let same : i ≡ m = eqb-true i m e in
        subst (λ x. found_or (least_below test x) (test x) x ≡ Some i) same (ap (λ o. found_or o (test i) i) none ∙ found_this (test i) i passes)
    by false e before =
        let apart : i ≢ m = eqb-false i m e in
        ap (λ o. found_or o (test m) m) (before (omega arith))

-- one lane more is overrun
pub overrun_next : (lanes : Lanes) (to : ℕ) → overrun_lanes lanes (to + 1) ≡ stepped_lanes (overrun_lanes lanes to) to overrun
unfolding overrun_lanes
overrun_next lanes to = rw add-one refl

pub overrun_told : (from : Address) (lanes : Lanes) (to : ℕ) → overrun_events from lanes (to + 1) ≡ overrun_events from lanes to ++ outcome_of from (record { 0 = to }) (step_at (overrun_lanes lanes to) to overrun).ended
unfolding overrun_events
overrun_told from lanes to = rw add-one refl

pub overrun_from : (lanes : Lanes) → overrun_lanes lanes 0 ≡ lanes
unfolding overrun_lanes
overrun_from lanes = refl

pub told_from : (from : Address) (lanes : Lanes) → overrun_events from lanes 0 ≡ []
unfolding overrun_events
told_from from lanes = refl

pub none_from : (test : ℕ → Bool) → least_below test 0 ≡ None
unfolding least_below
none_from test = refl

pub ruleset least_laws = (none_below, least_is, none_from)
