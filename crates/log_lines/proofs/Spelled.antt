-- The text of an object, member by member.
use Rattle.std.proofs.Common.{◌≡◌, ℕ, List, [], ◌∷◌, ◌++◌, Bool, true, false, refl, ap, ◌∙◌, sym, append_assoc, codes}
use Rattle.json.specs.Print.{quoted}
use Rattle.serde_json.specs.Data.{Data}
use Rattle.serde_json.specs.Written.{comma_if, compact_text, members_text}
use Rattle.log_lines.specs.Objects.{Named, members_from, object_line, key_text, member_text, rest_text}

-- a member, and what stands behind it
one_more : (later : Bool) (name : List ℕ) (d : Data) (rest : List ℕ) → comma_if later ++ (quoted name ++ 58 ∷ (compact_text d ++ rest)) ≡ member_text later name d ++ rest
unfolding member_text key_text
one_more later name d rest =
    let named : List ℕ = comma_if later ++ quoted name in
    sym (append_assoc (named ++ 58 ∷ []) (compact_text d) rest
    ∙ append_assoc named (58 ∷ []) (compact_text d ++ rest)
    ∙ append_assoc (comma_if later) (quoted name) (58 ∷ (compact_text d ++ rest)))

later_ones : (ms : List Named) → members_text true (members_from ms) ++ codes "\n" ≡ rest_text ms
later_ones [] = refl
later_ones (m ∷ ms) =
    let rest : List ℕ = members_text true (members_from ms) in
    ap (λ s. s ++ codes "\n") (one_more true m.0 m.1 rest) ∙ append_assoc (member_text true m.0 m.1) rest (codes "\n") ∙ ap (λ s. member_text true m.0 m.1 ++ s) (later_ones ms)

-- the line of an object that has a member
pub line_spelled : (m : Named) (ms : List Named) → object_line (m ∷ ms) ≡ codes "{" ++ (member_text false m.0 m.1 ++ rest_text ms)
line_spelled m ms =
    let rest : List ℕ = members_text true (members_from ms) in
    ap (λ s. 123 ∷ (s ++ codes "\n")) (one_more false m.0 m.1 rest)
    ∙ ap (λ s. 123 ∷ s) (append_assoc (member_text false m.0 m.1) rest (codes "\n") ∙ ap (λ s. member_text false m.0 m.1 ++ s) (later_ones ms))
