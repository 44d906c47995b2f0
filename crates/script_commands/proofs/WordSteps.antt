-- One byte further in a line.
use Rattle.std.proofs.Common.{◌≡◌, ◌≢◌, ℕ, ◌<◌, ◌≤◌, ◌+◌, ◌-◌, List, [], ◌∷◌, ◌++◌, length, get_or, take, drop, refl, ◌∙◌, ap, arith, add-one, drop-cons, length-drop, get_or-drop, append_assoc}
use Rattle.std.proofs.lemmas.List.{take_more}
use Rattle.script_commands.specs.Words.{some_word, words_from}
use Rattle.std.proofs.lemmas.Bool.{ne_eqb}

abbrev part : List ℕ → ℕ → ℕ → List ℕ
part line start at = take (at - start) (drop start line)

at_byte : (line : List ℕ) (at : ℕ) → at < length line → drop at line ≡ get_or line at 0 ∷ drop (at + 1) line
at_byte line at h = rw (add-one, drop-cons line at 0) refl

no_part : (line : List ℕ) (at : ℕ) → part line at at ≡ []
no_part line at = let z : at - at ≡ 0 = omega arith in rw z refl

pub at_space : (front words : List (List ℕ)) (line : List ℕ) (start at : ℕ) → words ≡ front ++ some_word (part line start at) → at < length line → get_or line at 0 ≡ 32
    → words ++ words_from (part line (at + 1) (at + 1)) (drop (at + 1) line) ≡ front ++ words_from (part line start at) (drop at line)
at_space front words line start at w h e =
    let d : drop at line ≡ 32 ∷ drop (at + 1) line = at_byte line at h ∙ ap (λ b. b ∷ drop (at + 1) line) e in
    rw (d, no_part line (at + 1), w) (append_assoc front _ _)

pub at_other : (line : List ℕ) (start at : ℕ) → start ≤ at → at < length line → get_or line at 0 ≢ 32
    → words_from (part line start (at + 1)) (drop (at + 1) line) ≡ words_from (part line start at) (drop at line)
at_other line start at s h e =
    let n : at + 1 - start ≡ (at - start) + 1 = omega arith in
    let l : at - start < length (drop start line) = simp length-drop (omega arith) in
    let i : start + (at - start) ≡ at = omega arith in
    let g : get_or (drop start line) (at - start) 0 ≡ get_or line at 0 = rw (get_or-drop, i) refl in
    let p : part line start (at + 1) ≡ part line start at ++ get_or line at 0 ∷ [] = rw n (take_more (drop start line) (at - start) 0 l ∙ ap (λ b. part line start at ++ b ∷ []) g) in
    let t = ne_eqb (get_or line at 0) 32 e in
    rw (at_byte line at h, t, p) refl
