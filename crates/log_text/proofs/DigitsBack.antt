-- What digits write is read back.
use Rattle.std.proofs.Common.{◌≡◌, ℕ, zero, suc, ◌+◌, ◌-◌, ◌*◌, ◌/◌, ◌%◌, ◌^◌, ◌<◌, ◌≤◌, List, [], ◌∷◌, ◌++◌, length, Bool, true, false, Option, Some, None, refl, sym, ◌∙◌, ap, arith, length-append, nat_lt, nat_le}
use Rattle.std.proofs.lemmas.Bool.Decides.{nat_tests}
use Rattle.log_text.specs.Written.{AreBytes}
use Rattle.text_digits.specs.Numerals.{◌>>=◌, digit_of, put_digit, numeral_from, pair_of, pairs_of}
use Rattle.text_digits.specs.Digits.{digit_char, digits, unspaced}

low_digit : (b : ℕ) → 48 ≤ b → b ≤ 57 → digit_of b ≡ Some (b - 48)
low_digit b l m =
    let p : nat_le 48 b ≡ true = grind (arith, nat_tests) in
    let q : nat_le b 57 ≡ true = grind (arith, nat_tests) in
    rw (p, q) refl

high_digit : (b : ℕ) → 65 ≤ b → b ≤ 70 → digit_of b ≡ Some (b - 55)
high_digit b l m =
    let p : nat_le 48 b ≡ true = grind (arith, nat_tests) in
    let q : nat_le b 57 ≡ false = grind (arith, nat_tests) in
    let r : nat_le 65 b ≡ true = grind (arith, nat_tests) in
    let s : nat_le b 70 ≡ true = grind (arith, nat_tests) in
    rw (p, q, r, s) refl

-- the digit of a value, by its size
low_char : (d : ℕ) → d < 10 → digit_char d ≡ 48 + d
low_char d h = let t : nat_lt d 10 ≡ true = grind (arith, nat_tests) in rw t refl

high_char : (d : ℕ) → 10 ≤ d → digit_char d ≡ 55 + d
high_char d h = let t : nat_lt d 10 ≡ false = grind (arith, nat_tests) in rw t refl

-- what holds of a value below 10 and of one from 10 on
by_size : (P : ℕ → Type 0) (d : ℕ) → (d < 10 → P d) → (10 ≤ d → P d) → P d
by_size P d low high = by (nat_lt d 10) refl
  where
    by : (b : Bool) → nat_lt d 10 ≡ b → P d
    by true t = low (grind (arith, nat_tests))
    by false t = high (grind (arith, nat_tests))

low_back : (d : ℕ) → d < 10 → digit_of (digit_char d) ≡ Some d
low_back d h =
    let v : 48 + d - 48 ≡ d = omega arith in
    ap digit_of (low_char d h) ∙ low_digit (48 + d) (omega arith) (omega (arith, h)) ∙ ap Some v

high_back : (d : ℕ) → 10 ≤ d → d < 16 → digit_of (digit_char d) ≡ Some d
high_back d l h =
    let v : 55 + d - 55 ≡ d = omega arith in
    ap digit_of (high_char d l) ∙ high_digit (55 + d) (omega (arith, l)) (omega (arith, h)) ∙ ap Some v

pub digit_back : (d : ℕ) → d < 16 → digit_of (digit_char d) ≡ Some d
digit_back d h = by_size (λ n. n < 16 → digit_of (digit_char n) ≡ Some n) d (λ l m. low_back d l) (λ l m. high_back d l m) h

-- the digits of values below 16 lie from 48 on, and end at 70
pub char_from : (d : ℕ) → 48 ≤ digit_char d
char_from d = by_size (λ n. 48 ≤ digit_char n) d (λ l. rw (low_char d l) (omega arith)) (λ l. rw (high_char d l) (omega arith))

pub char_to : (d : ℕ) → d < 16 → digit_char d ≤ 70
char_to d h = by_size (λ n. n < 16 → digit_char n ≤ 70) d (λ l m. rw (low_char d l) (omega (arith, l))) (λ l m. rw (high_char d l) (omega (arith, m))) h

put_some : (base n b d : ℕ) → digit_of b ≡ Some d → d < base → base * n + d < 2 ^ 64 → put_digit base n b ≡ Some (base * n + d)
put_some base n b d e l m =
    let p : nat_lt d base ≡ true = grind (arith, nat_tests) in
    let q : nat_lt (base * n + d) (2 ^ 64) ≡ true = grind (arith, nat_tests) in
    rw (e, p, q) refl

-- the last digit of a number is read behind the others
abbrev pub ReadsLast : ℕ → Type 0
ReadsLast base = (m : ℕ) → m < 2 ^ 64 → (m / base < 2 ^ 64) × (put_digit base (m / base) (digit_char (m % base)) ≡ Some m)

pub reads_last_10 : ReadsLast 10
reads_last_10 m h =
    let e : 10 * (m / 10) + m % 10 ≡ m = omega arith in
    (omega (arith, h), put_some 10 (m / 10) (digit_char (m % 10)) (m % 10) (digit_back (m % 10) (omega arith)) (omega arith) (omega (arith, e, h)) ∙ ap Some e)

pub reads_last_16 : ReadsLast 16
reads_last_16 m h =
    let e : 16 * (m / 16) + m % 16 ≡ m = omega arith in
    (omega (arith, h), put_some 16 (m / 16) (digit_char (m % 16)) (m % 16) (digit_back (m % 16) (omega arith)) (omega arith) (omega (arith, e, h)) ∙ ap Some e)

bind_some : (o : Option ℕ) → (o >>= λ m. Some m) ≡ o
bind_some None = refl
bind_some (Some m) = refl

numeral_last : (base n : ℕ) (xs : List ℕ) (b : ℕ) → numeral_from base n (xs ++ b ∷ []) ≡ (numeral_from base n xs >>= λ m. put_digit base m b)
numeral_last base n [] b = bind_some (put_digit base n b)
numeral_last base n (x ∷ xs) b =
    elim (put_digit base n x) as (λ o. (o >>= λ m. numeral_from base m (xs ++ b ∷ [])) ≡ ((o >>= λ m. numeral_from base m xs) >>= λ m. put_digit base m b)) [
      | None ↦ refl
      | Some m ↦ numeral_last base m xs b
    ]

-- a number has no more digits than this
abbrev pub Fits : (base width n : ℕ) → Type 0
Fits base zero n = n ≡ 0
Fits base (suc width) n = Fits base width (n / base)

pub digits_back : (base width n : ℕ) → ReadsLast base → Fits base width n → n < 2 ^ 64 → numeral_from base 0 (digits base width n) ≡ Some n
digits_back base zero n r f h = ap Some (sym f)
digits_back base (suc width) n r f h =
    let l = r n h in
    numeral_last base 0 (digits base width (n / base)) (digit_char (n % base))
    ∙ ap (λ o. o >>= λ m. put_digit base m (digit_char (n % base))) (digits_back base width (n / base) r f l.0) ∙ l.1

pub length-digits : (base width n : ℕ) → length (digits base width n) ≡ width
length-digits base zero n = refl
length-digits base (suc width) n = let r = length-digits base width (n / base) in simp length-append (omega (arith, r))

pair_back : (b : ℕ) → b < 256 → pair_of (digit_char (b / 16 % 16)) (digit_char (b % 16)) ≡ Some b
pair_back b h =
    let p = digit_back (b / 16 % 16) (omega arith) in
    let q = digit_back (b % 16) (omega arith) in
    let e : 16 * (b / 16 % 16) + b % 16 ≡ b = omega (arith, h) in
    rw (p, q) (ap Some e)

pub pairs_back : (bytes : List ℕ) → AreBytes bytes → pairs_of (unspaced bytes) ≡ Some bytes
unfolding pairs_of
pairs_back [] h = refl
pairs_back (b ∷ bs) h = rw (pair_back b h.0, pairs_back bs h.1) refl

pub length-unspaced : (bytes : List ℕ) → length (unspaced bytes) ≡ 2 * length bytes
length-unspaced [] = refl
length-unspaced (b ∷ bs) = let r = length-unspaced bs in omega (arith, r)
