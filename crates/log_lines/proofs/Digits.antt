-- Hexadecimal digits in a quoted text.
use Rattle.std.proofs.Common.{◌≡◌, ℕ, ◌+◌, ◌<◌, ◌≤◌, List, [], ◌∷◌, ◌++◌, refl, ap, ◌∙◌, sym, append_assoc, ◌/◌, ◌%◌, ◌==◌, Bool, true, false, nat_lt, arith}
use Rattle.std.proofs.lemmas.Bool.Decides.{nat_tests}
use Rattle.std.proofs.lemmas.Nat.{mod_below}
use Rattle.json.specs.Print.{escape_byte, escape, quoted}
use Rattle.text_digits.specs.Digits.{digit_char, unspaced}

-- digits and letters are escaped no more than what lies between them
plain : (x : ℕ) → 35 ≤ x → x < 92 → escape_byte x ≡ x ∷ []
unfolding escape_byte
plain x l h =
    let a : (x == 34) ≡ false = grind (arith, nat_tests) in
    let b : (x == 92) ≡ false = grind (arith, nat_tests) in
    let c : (x == 8) ≡ false = grind (arith, nat_tests) in
    let d : (x == 12) ≡ false = grind (arith, nat_tests) in
    let e : (x == 10) ≡ false = grind (arith, nat_tests) in
    let f : (x == 13) ≡ false = grind (arith, nat_tests) in
    let g : (x == 9) ≡ false = grind (arith, nat_tests) in
    let k : nat_lt x 32 ≡ false = grind (arith, nat_tests) in
    rw (a, b, c, d, e, f, g, k) refl

by_test : (d : ℕ) (low : Bool) → nat_lt d 10 ≡ low → d < 16 → escape_byte (digit_char d) ≡ digit_char d ∷ []
by_test d true e h =
    let l : d < 10 = grind (arith, nat_tests) in
    rw e (plain (48 + d) (omega arith) (omega arith))
by_test d false e h =
    let l : 10 ≤ d = grind (arith, nat_tests) in
    rw e (plain (55 + d) (omega arith) (omega arith))

digit_plain : (n : ℕ) → escape_byte (digit_char (n % 16)) ≡ digit_char (n % 16) ∷ []
digit_plain n = by_test (n % 16) (nat_lt (n % 16) 10) refl (mod_below n 16 (omega arith))

no_escape_all : (bytes : List ℕ) → escape (unspaced bytes) ≡ unspaced bytes
no_escape_all [] = refl
no_escape_all (b ∷ bs) = rw (digit_plain (b / 16), digit_plain b, no_escape_all bs) refl

no_escape : (bytes : List ℕ) → quoted (unspaced bytes) ≡ 34 ∷ (unspaced bytes ++ 34 ∷ [])
no_escape bytes = ap (λ s. 34 ∷ (s ++ 34 ∷ [])) (no_escape_all bytes)

-- digits that were put between two quotes
pub digits_put : (bytes old a b c : List ℕ) → a ≡ old ++ 34 ∷ [] → b ≡ a ++ unspaced bytes → c ≡ b ++ 34 ∷ [] → c ≡ old ++ quoted (unspaced bytes)
digits_put bytes old a b c p q r =
    r ∙ ap (λ s. s ++ 34 ∷ []) (q ∙ ap (λ s. s ++ unspaced bytes) p)
    ∙ append_assoc (old ++ 34 ∷ []) (unspaced bytes) (34 ∷ []) ∙ append_assoc old (34 ∷ []) (unspaced bytes ++ 34 ∷ []) ∙ ap (λ s. old ++ s) (sym (no_escape bytes))
