-- Numbers of several bytes, and tests.
use Rattle.std.proofs.Common.{◌≡◌, ℕ, suc, ◌/◌, ◌%◌, ◌<◌, ◌^◌, List, [], ◌∷◌, Bool, true, false, cond, ◌&&◌, Option, Some, None, ◌⊎◌, inl, inr, refl, arith, nat_lt, get_or}
use Rattle.std.proofs.lemmas.Bool.Decides.{nat_tests}
use Rattle.tp_wire.specs.Reading.{◌>>=◌, number_2, number_3, number_4, field_of}

pub number_2_back : (n : ℕ) → number_2 (n % 2 ^ 8) (n / 2 ^ 8) ≡ n
number_2_back n = omega arith

pub number_3_back : (n : ℕ) → number_3 (n % 2 ^ 8) (n / 2 ^ 8 % 2 ^ 8) (n / 2 ^ 16) ≡ n
number_3_back n = omega arith

pub number_4_back : (n : ℕ) → number_4 (n % 2 ^ 8) (n / 2 ^ 8 % 2 ^ 8) (n / 2 ^ 16 % 2 ^ 8) (n / 2 ^ 24) ≡ n
number_4_back n = omega arith

pub field_back : (n : ℕ) → n < 2 ^ 18 → field_of (n % 2 ^ 8) (n / 2 ^ 8 % 2 ^ 8) (n / 2 ^ 16) ≡ Some n
field_back n h =
    let t : nat_lt n (2 ^ 18) ≡ true = grind (arith, nat_tests) in
    rw (number_3_back n, t) refl

-- the two cases of a test
pub chosen : {A : Type 0} (b : Bool) (x y z : A) → cond b x y ≡ z → ((b ≡ true) × (x ≡ z)) ⊎ ((b ≡ false) × (y ≡ z))
chosen true x y z e = inl (refl, e)
chosen false x y z e = inr (refl, e)

pub bind_some : {A B : Type 0} (o : Option A) (f : A → Option B) (y : B) → (o >>= f) ≡ Some y → (x : A) × (o ≡ Some x) × (f x ≡ Some y)
bind_some None f y e = cc
bind_some (Some x) f y e = (x, refl, e)

pub some_back : {A : Type 0} (x y : A) → Some x ≡ Some y → x ≡ y
some_back x y e = cc

pub field_taken : (p q r n : ℕ) → field_of p q r ≡ Some n → (number_3 p q r ≡ n) × (number_3 p q r < 2 ^ 18)
field_taken p q r n e = elim (chosen (nat_lt (number_3 p q r) (2 ^ 18)) (Some (number_3 p q r)) None (Some n) e) [
  | inl y ↦ let l : number_3 p q r < 2 ^ 18 = grind (arith, nat_tests) in (some_back _ _ y.1, l)
  | inr y ↦ absurd (let no : None ≡ Some n = y.1 in cc)
]

pub both_true : (a b : Bool) → (a && b) ≡ true → (a ≡ true) × (b ≡ true)
both_true true b h = (refl, h)
both_true false b h = cc

-- each is a byte
abbrev pub AllBytes : List ℕ → Type 0
AllBytes [] = Unit {0}
AllBytes (b ∷ bytes) = (b < 256) × AllBytes bytes

pub all_bytes : (bytes : List ℕ) → ((i : ℕ) → get_or bytes i 0 < 256) → AllBytes bytes
all_bytes [] h = tt
all_bytes (b ∷ bytes) h = (h 0, all_bytes bytes (λ i. h (suc i)))
