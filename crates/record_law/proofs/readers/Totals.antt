-- Numbers that go up to the last value of 64 bits.
use Rattle.std.proofs.Common.{◌≡◌, ℕ, ◌+◌, ◌-◌, ◌^◌, Bool, true, false, cond, List, [], ◌∷◌, fold, refl, sym, ap, ◌∙◌, arith, min, add-zero}
use Rattle.segment_law.specs.Segment.{plus}
use Rattle.record_law.specs.Counting.{number_of, up_to_last}

-- one more where a test passes
abbrev pub grown : Bool → ℕ → ℕ
grown b n = cond b (plus n 1) n

-- one more for each item that passes
abbrev pub more : {A : Type 0} → (A → Bool) → List A → ℕ → ℕ
more is xs n = fold (λ k x. grown (is x) k) n xs

once_more : (last a : ℕ) → min (min a last + 1) last ≡ min (a + 1) last
once_more last a = omega arith

grown_is : (b : Bool) (a : ℕ) → grown b (up_to_last a) ≡ up_to_last (a + cond b 1 0)
grown_is true a = once_more (2 ^ 64 - 1) a
grown_is false a = ap up_to_last (sym (add-zero a))

module _ {A : Type 0} (is : A → Bool) where
  -- from a number that goes up to the last value, so many more go up to the last value
  more_is : (xs : List A) (a : ℕ) → more is xs (up_to_last a) ≡ up_to_last (fold (λ k x. k + cond (is x) 1 0) a xs)
  more_is [] a = refl
  more_is (x ∷ xs) a = ap (more is xs) (grown_is (is x) a) ∙ more_is xs (a + cond (is x) 1 0)

  pub number_is : (xs : List A) → more is xs 0 ≡ number_of is xs
  number_is xs = more_is xs 0
