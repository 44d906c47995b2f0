-- Sums and products of numbers that are cut at the last value.
use Rattle.std.proofs.Common.{◌≡◌, ℕ, zero, suc, ◌+◌, ◌*◌, ◌-◌, ◌^◌, ◌<◌, ◌≤◌, ◌⊎◌, inl, inr, true, false, ap, ◌∙◌, arith}
use Rattle.std.specs.Prelude.{leb}
use Rattle.std.proofs.Math.Nat.{le-mul_of_pos_right, mul_comm}
use Rattle.std.proofs.lemmas.Bool.Decides.{leb_tells}
use Rattle.record_law.specs.Counting.{up_to_last}

pub sum_cut : (x y : ℕ) → up_to_last (up_to_last x + up_to_last y) ≡ up_to_last (x + y)
sum_cut x y = omega arith

cut_small : (x : ℕ) → x ≤ 2 ^ 64 - 1 → up_to_last x ≡ x
cut_small x h = omega (arith, h)

-- one factor is past the last value
large : (x y : ℕ) → 2 ^ 64 - 1 < x → up_to_last (up_to_last x * up_to_last y) ≡ up_to_last (x * y)
large x zero h =
    let none : up_to_last zero ≡ zero = omega arith in
    let same : up_to_last x * zero ≡ x * zero = omega arith in
    ap (λ n. up_to_last (up_to_last x * n)) none ∙ ap up_to_last same
large x (suc y) h =
    let cut : up_to_last x ≡ 2 ^ 64 - 1 = omega (arith, h) in
    let some : zero < up_to_last (suc y) = omega arith in
    let less : up_to_last x ≤ up_to_last x * up_to_last (suc y) = le-mul_of_pos_right (up_to_last x) some in
    let more : x ≤ x * suc y = le-mul_of_pos_right x (omega arith) in
    past (up_to_last x * up_to_last (suc y)) (x * suc y) (omega (arith, cut, less)) (omega (arith, more, h))
  where
    past : (p q : ℕ) → 2 ^ 64 - 1 ≤ p → 2 ^ 64 - 1 ≤ q → up_to_last p ≡ up_to_last q
    past p q a b = omega (arith, a, b)

pub product_cut : (x y : ℕ) → up_to_last (up_to_last x * up_to_last y) ≡ up_to_last (x * y)
product_cut x y = by (leb_tells x (2 ^ 64 - 1)) (leb_tells y (2 ^ 64 - 1))
  where
    by : ((leb x (2 ^ 64 - 1) ≡ true) × (x ≤ 2 ^ 64 - 1)) ⊎ ((leb x (2 ^ 64 - 1) ≡ false) × (2 ^ 64 - 1 < x))
        → ((leb y (2 ^ 64 - 1) ≡ true) × (y ≤ 2 ^ 64 - 1)) ⊎ ((leb y (2 ^ 64 - 1) ≡ false) × (2 ^ 64 - 1 < y))
        → up_to_last (up_to_last x * up_to_last y) ≡ up_to_last (x * y)
    by (inl p) (inl q) = ap (λ n. up_to_last (n * up_to_last y)) (cut_small x p.1) ∙ ap (λ n. up_to_last (x * n)) (cut_small y q.1)
    by (inr p) q = large x y p.1
    by (inl p) (inr q) = ap up_to_last (mul_comm (up_to_last x) (up_to_last y)) ∙ large y x q.1 ∙ ap up_to_last (mul_comm y x)

-- what is below the last value isn't cut
pub uncut : (n r : ℕ) → r ≡ up_to_last n → r < 2 ^ 64 - 1 → n ≤ r
uncut n r e h = omega (arith, e, h)
