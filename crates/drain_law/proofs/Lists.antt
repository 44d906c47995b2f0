-- Lists of lists: where all before one are empty, its first element is the first of all.
use Rattle.std.proofs.Common.{◌≡◌, ◌⊎◌, inl, inr, ℕ, zero, suc, ◌+◌, ◌<◌, ◌≤◌, List, [], ◌∷◌, ◌++◌, refl, sym, ap, ◌∙◌, arith}
use Rattle.std.specs.Prelude.{flat_map}
use Rattle.std.specs.List.{range_with_len}
use Rattle.record_law.proofs.Tests.{equal_or_not}

module _ {X : Type 0} where
  abbrev pub flat : (ℕ → List X) → (from n : ℕ) → List X
  flat g from n = flat_map g (range_with_len from n)

  pub flat_none : (g : ℕ → List X) (from n : ℕ) → ((k : ℕ) → from ≤ k → k < from + n → g k ≡ []) → flat g from n ≡ []
  flat_none g from zero h = refl
  flat_none g from (suc n) h = (λ i. h from (omega arith) (omega arith) i ++ flat_none g (from + 1) n (λ k le lt. h k (omega (arith, le)) (omega (arith, lt))) i)

  pub flat_same : (g other : ℕ → List X) (from n : ℕ) → ((k : ℕ) → from ≤ k → k < from + n → g k ≡ other k) → flat g from n ≡ flat other from n
  flat_same g other from zero h = refl
  flat_same g other from (suc n) h = (λ i. h from (omega arith) (omega arith) i ++ flat_same g other (from + 1) n (λ k le lt. h k (omega (arith, le)) (omega (arith, lt))) i)

  pub flat_first : (g other : ℕ → List X) (x : X) (from n k : ℕ) → from ≤ k → k < from + n → ((j : ℕ) → from ≤ j → j < k → (g j ≡ []) × (other j ≡ [])) → g k ≡ x ∷ other k → ((j : ℕ) → k < j → j < from + n → g j ≡ other j)
      → flat g from n ≡ x ∷ flat other from n
  flat_first g other x from zero k le lt lower here above = absurd (omega (arith, le, lt))
  flat_first g other x from (suc n) k le lt lower here above = by (equal_or_not from k) (λ le' lt' lower' above'. flat_first g other x (from + 1) n k le' lt' lower' here above')
    where
      by : (from ≡ k) ⊎ (from ≡ k → ⊥) → (from + 1 ≤ k → k < from + 1 + n → ((j : ℕ) → from + 1 ≤ j → j < k → (g j ≡ []) × (other j ≡ [])) → ((j : ℕ) → k < j → j < from + 1 + n → g j ≡ other j) → flat g (from + 1) n ≡ x ∷ flat other (from + 1) n)
          → flat g from (suc n) ≡ x ∷ flat other from (suc n)
      by (inl e) more = (λ i. (ap g e ∙ here ∙ ap (λ j. x ∷ other j) (sym e)) i ++ flat_same g other (from + 1) n (λ j from_next under. above j (omega (arith, e, from_next)) (omega (arith, under))) i)
      by (inr ne) more =
          let none = lower from (omega arith) (omega (arith, le, ne)) in
          (λ i. none.0 i ++ more (omega (arith, le, ne)) (omega (arith, lt)) (λ j f l. lower j (omega (arith, f)) l) (λ j f l. above j f (omega (arith, l))) i)
          ∙ (λ i. x ∷ (sym none.1 i ++ flat other (from + 1) n))

  -- what a list of lists begins with
  pub record Heads (all : List X) (x : X) : Type 0 where
    pub rest : List X
    pub is : all ≡ x ∷ rest

  pub flat_head : (g : ℕ → List X) (x : X) (xs : List X) (from n k : ℕ) → from ≤ k → k < from + n → ((j : ℕ) → from ≤ j → j < k → g j ≡ []) → g k ≡ x ∷ xs → Heads (flat g from n) x
  flat_head g x xs from zero k le lt lower here = absurd (omega (arith, le, lt))
  flat_head g x xs from (suc n) k le lt lower here = by (equal_or_not from k) (λ le' lt' lower'. flat_head g x xs (from + 1) n k le' lt' lower' here)
    where
      by : (from ≡ k) ⊎ (from ≡ k → ⊥) → (from + 1 ≤ k → k < from + 1 + n → ((j : ℕ) → from + 1 ≤ j → j < k → g j ≡ []) → Heads (flat g (from + 1) n) x) → Heads (flat g from (suc n)) x
      by (inl e) more = record { rest = xs ++ flat g (from + 1) n; is = (λ i. (ap g e ∙ here) i ++ flat g (from + 1) n) }
      by (inr ne) more =
          let h : Heads (flat g (from + 1) n) x = more (omega (arith, le, ne)) (omega (arith, lt)) (λ j f l. lower j (omega (arith, f)) l) in
          record { rest = h.rest; is = (λ i. lower from (omega arith) (omega (arith, le, ne)) i ++ h.is i) }
