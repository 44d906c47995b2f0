-- One byte further in a text.
use Rattle.std.proofs.Common.{◌≡◌, ◌≢◌, ℕ, suc, ◌<◌, ◌≤◌, ◌+◌, ◌-◌, List, [], ◌∷◌, ◌++◌, length, get_or, take, drop, refl, sym, ◌∙◌, ap, arith, add-one, drop-cons, length-drop, get_or-drop, append_assoc}
use Rattle.std.proofs.lemmas.List.{take_more}
use Rattle.std.proofs.lemmas.Bool.{ne_eqb}
use Rattle.log_reports.specs.Fields.{fields_from, fields_of}
use Rattle.log_reports.specs.Texts.{field_line, field_lines, count_line, software_identification}
use Rattle.log_reports.specs.declared.naming.Kind.{Kind}
use Rattle.log_reports.specs.declared.naming.Kind.TheVariants.{Software}

abbrev part : List ℕ → ℕ → ℕ → List ℕ
part text start at = take (at - start) (drop start text)

at_byte : (text : List ℕ) (at : ℕ) → at < length text → drop at text ≡ get_or text at 0 ∷ drop (at + 1) text
at_byte text at h = rw (add-one, drop-cons text at 0) refl

no_part : (text : List ℕ) (at : ℕ) → part text at at ≡ []
no_part text at = let z : at - at ≡ 0 = omega arith in rw z refl

-- a field ends, and its line is put
pub at_end : (kind : Kind) (before : ℕ) (text : List ℕ) (start at : ℕ) (line : List ℕ) (old new all : List (List ℕ)) → at < length text → get_or text at 0 ≡ 42
    → line ≡ field_line kind (before + 1) (part text start at) → new ≡ old ++ line ∷ [] → old ++ field_lines kind (before + 1) (fields_from (part text start at) (drop at text)) ≡ all
    → new ++ field_lines kind (before + 1 + 1) (fields_from (part text (at + 1) (at + 1)) (drop (at + 1) text)) ≡ all
at_end kind before text start at line old new all h e is put so_far =
    let d : drop at text ≡ 42 ∷ drop (at + 1) text = at_byte text at h ∙ ap (λ b. b ∷ drop (at + 1) text) e in
    let rest : List (List ℕ) = field_lines kind (before + 1 + 1) (fields_from [] (drop (at + 1) text)) in
    let one : field_lines kind (before + 1) (fields_from (part text start at) (drop at text)) ≡ field_line kind (before + 1) (part text start at) ∷ rest = rw d refl in
    rw (no_part text (at + 1)) (ap (λ s. s ++ rest) put ∙ append_assoc old (line ∷ []) rest ∙ ap (λ l. old ++ l ∷ rest) is ∙ sym (ap (λ s. old ++ s) one) ∙ so_far)

pub at_other : (text : List ℕ) (start at : ℕ) → start ≤ at → at < length text → get_or text at 0 ≢ 42
    → fields_from (part text start (at + 1)) (drop (at + 1) text) ≡ fields_from (part text start at) (drop at text)
at_other text start at s h e =
    let n : at + 1 - start ≡ (at - start) + 1 = omega arith in
    let l : at - start < length (drop start text) = simp length-drop (omega arith) in
    let i : start + (at - start) ≡ at = omega arith in
    let g : get_or (drop start text) (at - start) 0 ≡ get_or text at 0 = rw (get_or-drop, i) refl in
    let p : part text start (at + 1) ≡ part text start at ++ get_or text at 0 ∷ [] = rw n (take_more (drop start text) (at - start) 0 l ∙ ap (λ b. part text start at ++ b ∷ []) g) in
    let t = ne_eqb (get_or text at 0) 42 e in
    rw (at_byte text at h, t, p) refl

-- as many lines as fields
pub as_many : (kind : Kind) (n : ℕ) (fields : List (List ℕ)) → length (field_lines kind n fields) ≡ length fields
as_many kind n [] = refl
as_many kind n (f ∷ fs) = ap suc (as_many kind (n + 1) fs)

-- the line of the number of fields is put in front of theirs
pub count_put : (bytes text : List ℕ) (n m : ℕ) (line : List ℕ) (lines new : List (List ℕ)) → bytes ≡ n ∷ text → lines ≡ field_lines Software 1 (fields_of text)
    → m ≡ length lines → line ≡ count_line n m → new ≡ line ∷ lines → new ≡ software_identification bytes
count_put bytes text n m line lines new p q l e put =
    let rows : List (List ℕ) = field_lines Software 1 (fields_of text) in
    let many : m ≡ length (fields_of text) = l ∙ ap length q ∙ as_many Software 1 (fields_of text) in
    let whole : software_identification bytes ≡ count_line n (length (fields_of text)) ∷ rows = rw p refl in
    put ∙ ap (λ x. x ∷ lines) (e ∙ ap (count_line n) many) ∙ ap (λ ls. count_line n (length (fields_of text)) ∷ ls) q ∙ sym whole
