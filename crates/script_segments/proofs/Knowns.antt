-- What holds of all that was looked at, one by one, and why a text is refused.
use Rattle.std.proofs.Common.{◌≡◌, ℕ, ◌+◌, ◌<◌, ◌≤◌, Bool, true, false, Ok, Err, nat_lt, refl, sym, ◌∙◌, subst, arith, ltb-true, ltb-false}
use Rattle.std.specs.Prelude.{Result, IfErr, IsErrAnd}
use Rattle.script_runs.specs.declared.ending.Lost.{Lost}
use Rattle.script_runs.specs.declared.ending.Lost.TheVariants.{NotThisSegment}

-- one more
pub up_to : (P : ℕ → Type 0) (i : ℕ) → ((k : ℕ) → k < i → P k) → P i → (k : ℕ) → k < i + 1 → P k
up_to P i before at k l = by (nat_lt k i) refl
  where
    by : (b : Bool) → nat_lt k i ≡ b → P k
    by true e = before k (ltb-true k i e)
    by false e = let above : i ≤ k = ltb-false k i e in subst P (omega (arith, above, l)) at

-- each number below one is below another
pub as_many : (n m : ℕ) → ((k : ℕ) → k < n → k < m) → n ≤ m
as_many n m below = by (nat_lt m n) refl
  where
    by : (b : Bool) → nat_lt m n ≡ b → n ≤ m
    by true e = let less : m < m = below m (ltb-true m n e) in absurd (omega (arith, less))
    by false e = ltb-false m n e

-- a refusal that is handed up
pub handed_up : {T : Type 0} (r : Result T Lost) (first : Lost) (P : Type 0) → IsErrAnd r (λ lost. lost ≡ first) → (first ≡ NotThisSegment → P → ⊥) → IfErr r (λ lost. lost ≡ NotThisSegment → P → ⊥)
handed_up (Ok x) first P e none = tt
handed_up (Err y) first P e none = λ is. none (sym e ∙ is)
