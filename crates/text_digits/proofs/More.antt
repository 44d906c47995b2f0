-- One digit more.
use Rattle.std.proofs.Common.{List, sym, ◌∙◌, ap, append_assoc, ◌≡◌, ◌≢◌, ℕ, zero, suc, ◌-◌, ◌/◌, ◌%◌, [], ◌∷◌, ◌++◌, refl, arith}
use Rattle.text_digits.specs.Digits.{digits, digit_char}

pub digits_more : (base width n : ℕ) → width ≢ 0 → digits base width n ≡ digits base (width - 1) (n / base) ++ digit_char (n % base) ∷ []
digits_more base zero n h = absurd (h refl)
digits_more base (suc width) n h = let e : suc width - 1 ≡ width = omega arith in rw e refl

-- a digit behind the others
pub more_digits : (base width n : ℕ) (old mid new : List ℕ) (d : ℕ) → width ≢ 0 → mid ≡ old ++ digits base (width - 1) (n / base) → d ≡ digit_char (n % base) → new ≡ mid ++ d ∷ [] → new ≡ old ++ digits base width n
more_digits base width n old mid new d h e f p =
    p ∙ ap (λ x. x ++ d ∷ []) e ∙ append_assoc old (digits base (width - 1) (n / base)) (d ∷ []) ∙ ap (λ x. old ++ (digits base (width - 1) (n / base) ++ x ∷ [])) f ∙ ap (λ x. old ++ x) (sym (digits_more base width n h))
