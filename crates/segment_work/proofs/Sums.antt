-- Sums over numbers and lists, one step on.
use Rattle.std.proofs.Common.{◌≡◌, ℕ, zero, suc, ◌+◌, ◌-◌, List, [], ◌∷◌, length, drop, refl, sym, ap, ◌∙◌, arith, add-one, length-drop}
use Rattle.std.specs.Prelude.{slice_get}
use Rattle.bus_order.proofs.Lists.{slice_get-drop}
use Rattle.work_law.specs.Work.{sum_below, sum_over}
use Rattle.work_law.proofs.Sums.{below_same}
use Rattle.segment_work.specs.Terms.{at}

pub below_none : (f : ℕ → ℕ) → sum_below f 0 ≡ 0
unfolding sum_below
below_none f = refl

pub below_next : (f : ℕ → ℕ) (n : ℕ) → sum_below f (n + 1) ≡ sum_below f n + f n
unfolding sum_below
below_next f n = rw add-one refl

pub ruleset below_steps = (below_none, below_next)

below_first : (f : ℕ → ℕ) (n : ℕ) → sum_below f (suc n) ≡ f 0 + sum_below (λ i. f (suc i)) n
unfolding sum_below
below_first f zero = omega arith
below_first f (suc n) = let e : sum_below f (suc n) ≡ f 0 + sum_below (λ i. f (suc i)) n = below_first f n in omega (arith, e)

module _ {A : Type 0} (f : A → ℕ) where
  -- over a list, item by item
  pub over_all : (xs : List A) → sum_over f xs ≡ sum_below (λ i. at f (slice_get xs i)) (length xs)
  unfolding sum_below
  over_all [] = refl
  over_all (x ∷ xs) = ap (λ n. f x + n) (over_all xs) ∙ sym (below_first (λ i. at f (slice_get (x ∷ xs) i)) (length xs))

  -- over the items behind the first ones
  pub over_rest : (k : ℕ) (xs : List A) → sum_over f (drop k xs) ≡ sum_below (λ i. at f (slice_get xs (k + i))) (length xs - k)
  over_rest k xs =
      over_all (drop k xs)
      ∙ below_same (λ i. at f (slice_get (drop k xs) i)) (λ i. at f (slice_get xs (k + i))) (length (drop k xs)) (λ i below. ap (at f) (slice_get-drop k xs i (k + i) refl))
      ∙ ap (sum_below (λ i. at f (slice_get xs (k + i)))) (length-drop k xs)
