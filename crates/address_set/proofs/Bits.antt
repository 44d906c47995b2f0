-- Bits of a word, and of a word that is shifted.
use Rattle.std.proofs.Common.{◌≡◌, ℕ, ◌+◌, ◌-◌, ◌/◌, ◌%◌, ◌^◌, ◌<◌, ◌≤◌, Bool, true, false, nat_lt, Some, refl, sym, ap, ◌∙◌, arith}
use Rattle.std.proofs.Math.Nat.{div-div-eq-div-mul, div-le_self}
use Rattle.std.proofs.lemmas.Nat.{pow-add}
use Rattle.std.proofs.lemmas.Bool.{ltb-true, ltb-false}
use Rattle.std.proofs.lemmas.Nat.Bits.{bit_at-zero, bit_at_above, bit_at-trailing_zeros}
use Rattle.std.specs.Int.{bit_at, trailing_zeros, w64}
use Rattle.address_set.specs.Sets.{IsLowest}

shifted : (n k i : ℕ) → bit_at (n / 2 ^ k) i ≡ bit_at n (k + i)
shifted n k i = ap (λ x. x % 2) (div-div-eq-div-mul n (2 ^ k) (2 ^ i) ∙ ap (λ x. n / x) (sym (pow-add 2 k i)))

unshifted : (n k at : ℕ) → k ≤ at → bit_at n at ≡ bit_at (n / 2 ^ k) (at - k)
unshifted n k at le =
    let back : at ≡ k + (at - k) = omega (arith, le) in
    ap (bit_at n) back ∙ sym (shifted n k (at - k))

-- where nothing is left of it
pub none_is_lowest : (word from : ℕ) → word / 2 ^ from ≡ 0 → (at : ℕ) → from ≤ at → bit_at word at ≡ 0
none_is_lowest word from none at le = unshifted word from at le ∙ ap (λ n. bit_at n (at - from)) none ∙ bit_at-zero (at - from)

module _ (word from : ℕ) (range : word < 2 ^ 64) (some : word / 2 ^ from ≡ 0 → ⊥) where
  abbrev pub rest : ℕ
  rest = word / 2 ^ from

  abbrev pub at : ℕ
  at = trailing_zeros w64 rest

  positive : 0 < rest
  positive = by (nat_lt 0 rest) refl
    where
      by : (b : Bool) → nat_lt 0 rest ≡ b → 0 < rest
      by true e = ltb-true 0 rest e
      by false e = absurd (some (omega (arith, ltb-false 0 rest e)))

  facts : (at < 64) × (bit_at rest at ≡ 1) × ((i : ℕ) → i < at → bit_at rest i ≡ 0)
  facts = bit_at-trailing_zeros w64 rest positive (omega (arith, range, div-le_self word (2 ^ from)))

  is_set : bit_at word (from + at) ≡ 1
  is_set = sym (shifted word from at) ∙ facts.1

  inside : from + at < 64
  inside = by (nat_lt (from + at) 64) refl
    where
      by : (b : Bool) → nat_lt (from + at) 64 ≡ b → from + at < 64
      by true e = ltb-true (from + at) 64 e
      by false e = absurd (omega (arith, is_set, bit_at_above word 64 (from + at) range (ltb-false (from + at) 64 e)))

  clear : (i : ℕ) → from ≤ i → i < from + at → bit_at word i ≡ 0
  clear i le below = unshifted word from i le ∙ facts.2 (i - from) (omega (arith, le, below))

  -- it is the lowest that is left
  pub lowest_is : IsLowest word from (Some (from + at))
  lowest_is = (omega arith, inside, is_set, clear)
