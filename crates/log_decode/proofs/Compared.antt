-- Keys that are compared one after another.
use Rattle.std.proofs.Common.{◌≡◌, ℕ, zero, suc, ◌+◌, ◌<◌, ◌≤◌, Bool, true, false, cond, not, nat_lt, List, [], ◌∷◌, length, Some, None, refl, ap, ◌∙◌, arith, position, slice_get}
use Rattle.std.proofs.lemmas.Bool.Decides.{nat_tests}
use Rattle.std.proofs.lemmas.Option.{none-some, same_Some}
use Rattle.std.specs.List.{position_or_len}
use Rattle.std.specs.Map.{keys_of}

later_by : (is : Bool) (n at : ℕ) → suc at ≤ cond (not is) (1 + n) 0 → (is ≡ false) × (at ≤ n)
later_by true n at l = absurd (omega (arith, l))
later_by false n at l = (refl, omega (arith, l))

by_len : (n at len : ℕ) → n ≡ at → at < len → cond (nat_lt n len) (Some n) None ≡ Some at
by_len n at len e l = let p : nat_lt n len ≡ true = grind (arith, nat_tests) in rw p (ap Some e)

module _ {K V : Type 0} (t : K → Bool) where
  -- those before a place aren't it, nor is the one there
  pub later : (es : List (K × V)) (at : ℕ) (e : K × V) → slice_get es at ≡ Some e → at ≤ position_or_len t (keys_of es) → t e.0 ≡ false → at + 1 ≤ position_or_len t (keys_of es)
  later [] at e g l f = absurd (none-some e g)
  later (x ∷ es) zero e g l f = rw (ap (λ y. t y.0) (same_Some x e g) ∙ f) (omega arith)
  later (x ∷ es) (suc at) e g l f =
      let b = later_by (t x.0) (position_or_len t (keys_of es)) at l in
      rw b.0 (let n = later es at e g b.1 f in omega (arith, n))

  there : (es : List (K × V)) (at : ℕ) (e : K × V) → slice_get es at ≡ Some e → at ≤ position_or_len t (keys_of es) → t e.0 ≡ true → position_or_len t (keys_of es) ≡ at
  there [] at e g l f = absurd (none-some e g)
  there (x ∷ es) zero e g l f = rw (ap (λ y. t y.0) (same_Some x e g) ∙ f) refl
  there (x ∷ es) (suc at) e g l f =
      let b = later_by (t x.0) (position_or_len t (keys_of es)) at l in
      rw b.0 (let n = there es at e g b.1 f in omega (arith, n))

  within : (es : List (K × V)) (at : ℕ) (e : K × V) → slice_get es at ≡ Some e → at < length (keys_of es)
  within [] at e g = absurd (none-some e g)
  within (x ∷ es) zero e g = omega arith
  within (x ∷ es) (suc at) e g = let n = within es at e g in omega (arith, n)

  -- the one there is it
  pub found : (es : List (K × V)) (at : ℕ) (e : K × V) → slice_get es at ≡ Some e → at ≤ position_or_len t (keys_of es) → t e.0 ≡ true → position t (keys_of es) ≡ Some at
  found es at e g l f = by_len (position_or_len t (keys_of es)) at (length (keys_of es)) (there es at e g l f) (within es at e g)

  keys_length : (es : List (K × V)) → length (keys_of es) ≡ length es
  keys_length [] = refl
  keys_length (e ∷ es) = ap suc (keys_length es)

  -- none is it
  pub absent : (es : List (K × V)) (at : ℕ) → length es ≤ at → at ≤ position_or_len t (keys_of es) → position t (keys_of es) ≡ None
  absent es at m l =
      let k = keys_length es in
      let p : nat_lt (position_or_len t (keys_of es)) (length (keys_of es)) ≡ false = grind (arith, nat_tests) in
      rw p refl
