-- Numbers of so few digits that they stay below 2 ^ 64.
use Rattle.std.proofs.Common.{◌≡◌, ℕ, suc, ◌+◌, ◌*◌, ◌^◌, ◌<◌, ◌≤◌, List, ◌∷◌, Some, None, true, nat_lt, if◌then◌else◌, refl, arith}
use Rattle.std.proofs.lemmas.Bool.Decides.{nat_tests}
use Rattle.std.proofs.lemmas.Nat.{mul-le}
use Rattle.std.proofs.Math.Nat.{pow-le-pow_right, pow-succ'}
use Rattle.text_digits.specs.Numerals.{digit_of, put_digit, numeral_from}

-- one digit more makes it less than 16 times as large
pub more_small : (base n d i : ℕ) → base ≤ 16 → d < base → n < 16 ^ i → base * n + d < 16 ^ (i + 1)
more_small base n d i b e h =
    let p : ℕ = 16 ^ i in
    let up : 16 ^ suc i ≡ 16 * p = pow-succ' 16 i in
    let one : i + 1 ≡ suc i = omega arith in
    let grown : base * suc n ≤ 16 * p = mul-le base (suc n) 16 p b h in
    let apart : base * suc n ≡ base * n + base = grind arith in
    rw (one, up) (omega (arith, grown, apart, e))

-- and sixteen of them stay below 2 ^ 64
pub few_fit : (i m : ℕ) → i < 16 → m < 16 ^ (i + 1) → m < 2 ^ 64
few_fit i m h e =
    let one : i + 1 ≤ 16 = omega (arith, h) in
    let most : 16 ^ (i + 1) ≤ 16 ^ 16 = pow-le-pow_right {n = 16} (omega arith) one in
    let all : 16 ^ 16 ≡ 2 ^ 64 = refl in
    omega (arith, most, all, e)

-- a digit is read
pub digit_read : (base n v b : ℕ) (rest : List ℕ) → digit_of b ≡ (if nat_lt v 16 then Some v else None) → v < base → base ≤ 16 → base * n + v < 2 ^ 64
    → numeral_from base n (b ∷ rest) ≡ numeral_from base (base * n + v) rest
digit_read base n v b rest e small most fits =
    let hex : nat_lt v 16 ≡ true = grind (arith, nat_tests, small, most) in
    let low : nat_lt v base ≡ true = grind (arith, nat_tests, small) in
    let below : nat_lt (base * n + v) (2 ^ 64) ≡ true = grind (arith, nat_tests, fits) in
    let is : digit_of b ≡ Some v = rw hex at e in
    let put : put_digit base n b ≡ Some (base * n + v) = rw (is, low, below) refl in
    rw put refl
