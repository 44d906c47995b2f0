-- The name of an interface is read back.
use Rattle.std.proofs.Common.{◌≡◌, ℕ, suc, ◌-◌, ◌<◌, ◌≤◌, List, [], ◌∷◌, ◌++◌, length, take, Bool, true, false, Option, Some, None, refl, sym, ◌∙◌, ap, arith, is_some, unwrap_or, true≢false, nat_lt, nat_le, ◌&&◌, ◌||◌, if◌then◌else◌}
use Rattle.std.specs.Prelude.{replicate, ◌==◌}
use Rattle.std.proofs.lemmas.Bool.Decides.{nat_tests}
use Rattle.text_digits.specs.Numerals.{is_between}
use Rattle.log_fields.specs.Fields.{place_of}
use Rattle.log_fields.specs.Iface.{is_printable, iface_of, name_of}
use Rattle.log_fields.specs.declared.iface.Iface.{Iface}
use Rattle.log_text.proofs.FieldsBack.{Without, place_front, take_front}

none_is_some : {A : Type 0} {x : A} → None ≡ Some x → ⊥
none_is_some e = true≢false (sym (ap is_some e))

same_some : {A : Type 0} {x y : A} → Some x ≡ Some y → x ≡ y
same_some {A} {x} e = ap (λ r. unwrap_or r x) e

-- 1 to 15 printable characters
pub record IsName (name : List ℕ) : Type 0 where
  pub some : 0 < length name
  pub most : length name ≤ 15
  pub printable : is_printable name ≡ true

abbrev kept_in : List ℕ → Iface
kept_in name = record { kept = name ++ replicate (16 - length name) 0 }

both : (x y : Bool) → (x && y) ≡ true → (x ≡ true) × (y ≡ true)
both true y e = (refl, e)
both false y e = absurd (true≢false (sym e))

-- by both tests
abbrev choose : List ℕ → Bool → Bool → Option Iface
choose name out in_print = if out then None else if in_print then Some (kept_in name) else None

-- only a name has an interface
pub name_there : (name : List ℕ) (iface : Iface) → iface_of name ≡ Some iface → IsName name × (iface ≡ record { kept = name ++ replicate (16 - length name) 0 })
name_there name iface e = by (length name == 0 || nat_lt 15 (length name)) (is_printable name) refl refl
  where
    by : (b c : Bool) → (length name == 0 || nat_lt 15 (length name)) ≡ b → is_printable name ≡ c → IsName name × (iface ≡ kept_in name)
    by true c t p = absurd (none_is_some (sym (ap (λ b. choose name b (is_printable name)) t) ∙ e))
    by false false t p = absurd (none_is_some (sym (λ i. choose name (t i) (p i)) ∙ e))
    by false true t p =
        (record { some = grind (arith, nat_tests, t); most = grind (arith, nat_tests, t); printable = p }, sym (same_some (sym (λ i. choose name (t i) (p i)) ∙ e)))

-- a printable character is neither a space nor 0
pub printable_without : (w : ℕ) (name : List ℕ) → w < 33 → is_printable name ≡ true → Without w name
printable_without w [] h p = tt
printable_without w (b ∷ bs) h p =
    let here = both (is_between 33 126 b) (is_printable bs) p in
    let low = (both (nat_le 33 b) (nat_le b 126) here.0).0 in
    let l : 33 ≤ b = grind (arith, nat_tests, low) in
    (λ e. omega (arith, l, h, e), printable_without w bs h here.1)

pub name_back : (name : List ℕ) → IsName name → name_of record { kept = name ++ replicate (16 - length name) 0 } ≡ name
name_back name h =
    let m = h.most in
    let k : 16 - length name ≡ suc (15 - length name) = omega (arith, m) in
    let rest : List ℕ = replicate (15 - length name) 0 in
    ap (λ ks. take (unwrap_or (place_of 0 ks) 15) ks) (ap (λ n. name ++ replicate n 0) k)
    ∙ ap (λ o. take (unwrap_or o 15) (name ++ 0 ∷ rest)) (place_front 0 name rest (printable_without 0 name (omega arith) h.printable))
    ∙ take_front name (0 ∷ rest)
