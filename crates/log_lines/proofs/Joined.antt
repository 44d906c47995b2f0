-- Items of an array and members of an object, joined by commas.
use Rattle.std.proofs.Common.{◌≡◌, ℕ, List, [], ◌∷◌, ◌++◌, Bool, true, false, Result, Ok, Err, OnOk, refl, ap, ◌∙◌, append_assoc, map, length, ◌==◌, codes, true≢false}
use Rattle.std.specs.declared.alloc.AllocError.{AllocError}
use Rattle.json.specs.Print.{escape_byte, quoted}
use Rattle.serde_json.specs.Data.{Data, string}
use Rattle.serde_json.specs.Written.{comma_if, compact_text, items_text, members_text}
use Rattle.log_reports.specs.declared.marks.Mark.{Mark}
use Rattle.log_courses.specs.declared.row.ReasonCount.{ReasonCount}
use Rattle.log_lines.specs.Objects.{Named, items_from, members_from, key_text, member_text}
use Rattle.log_lines.specs.Joined.{joined}
use Rattle.log_lines.specs.Meanings.{explained_text}
use Rattle.log_lines.specs.Frames.{mark_object, mark_text, frames_array}
use Rattle.log_lines.specs.Counts.{count_member, count_text, counts_object}

items_joined : {X : Type 0} (d : X → Data) (later : Bool) (xs : List X) → joined later (λ x. compact_text (d x)) xs ++ codes "]" ≡ items_text later (items_from (map d xs))
items_joined d later [] = refl
items_joined d later (x ∷ xs) =
    let rest : List ℕ = joined true (λ x. compact_text (d x)) xs in
    append_assoc (comma_if later) (compact_text (d x) ++ rest) (codes "]")
    ∙ ap (λ s. comma_if later ++ s) (append_assoc (compact_text (d x)) rest (codes "]") ∙ ap (λ s. compact_text (d x) ++ s) (items_joined d true xs))

members_joined : {X : Type 0} (m : X → Named) (later : Bool) (xs : List X) → joined later (λ x. quoted (m x).0 ++ 58 ∷ compact_text (m x).1) xs ++ codes "}" ≡ members_text later (members_from (map m xs))
members_joined m later [] = refl
members_joined m later (x ∷ xs) =
    let text : List ℕ = quoted (m x).0 ++ 58 ∷ compact_text (m x).1 in
    let rest : List ℕ = joined true (λ x. quoted (m x).0 ++ 58 ∷ compact_text (m x).1) xs in
    append_assoc (comma_if later) (text ++ rest) (codes "}")
    ∙ ap (λ s. comma_if later ++ s)
    (append_assoc text rest (codes "}") ∙ append_assoc (quoted (m x).0) (58 ∷ compact_text (m x).1) (rest ++ codes "}")
    ∙ ap (λ s. quoted (m x).0 ++ 58 ∷ (compact_text (m x).1 ++ s)) (members_joined m true xs))

pub same_text : (result : Result (Unit {0}) AllocError) (a b x y : List ℕ) → OnOk result (b ≡ a ++ x) → x ≡ y → OnOk result (b ≡ a ++ y)
same_text (Ok done) a b x y p e = p ∙ ap (λ s. a ++ s) e
same_text (Err error) a b x y p e = tt

explained : (lines : List (List ℕ)) → (length lines == 0) ≡ false → codes ",\"explained\":[" ++ (joined false quoted lines ++ codes "]") ≡ explained_text lines
unfolding member_text key_text escape_byte
explained [] e = absurd (true≢false e)
explained (l ∷ ls) e = ap (λ s. codes ",\"explained\":[" ++ s) (items_joined string false (l ∷ ls))

-- the member of lines in words
pub explained_put : (result : Result (Unit {0}) AllocError) (a b : List ℕ) (lines : List (List ℕ)) → (length lines == 0) ≡ false
    → OnOk result (b ≡ a ++ (codes ",\"explained\":[" ++ (joined false quoted lines ++ codes "]"))) → OnOk result (b ≡ a ++ explained_text lines)
explained_put result a b lines e p = same_text result a b _ (explained_text lines) p (explained lines e)

frames : (marks : List Mark) → codes ",\"frames\":[" ++ (joined false mark_text marks ++ codes "]") ≡ member_text true (codes "frames") (frames_array marks)
unfolding member_text key_text escape_byte
frames marks = ap (λ s. codes ",\"frames\":[" ++ s) (items_joined mark_object false marks)

-- the member of frames
pub frames_put : (result : Result (Unit {0}) AllocError) (a b : List ℕ) (marks : List Mark)
    → OnOk result (b ≡ a ++ (codes ",\"frames\":[" ++ (joined false mark_text marks ++ codes "]"))) → OnOk result (b ≡ a ++ member_text true (codes "frames") (frames_array marks))
frames_put result a b marks p = same_text result a b _ _ p (frames marks)

-- the object of counts
pub counts_put : (result : Result (Unit {0}) AllocError) (a b : List ℕ) (counts : List ReasonCount)
    → OnOk result (b ≡ a ++ (codes "{" ++ (joined false count_text counts ++ codes "}"))) → OnOk result (b ≡ a ++ compact_text (counts_object counts))
counts_put result a b counts p = same_text result a b _ (compact_text (counts_object counts)) p (ap (λ s. codes "{" ++ s) (members_joined count_member false counts))
