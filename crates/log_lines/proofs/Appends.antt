-- Objects whose members are put one behind the other.
use Rattle.std.proofs.Common.{◌≡◌, List, ℕ, [], ◌∷◌, ◌++◌, Result, OnOk, refl, sym, ◌∙◌, ap, append_assoc, codes, true, false}
use Rattle.std.specs.declared.alloc.AllocError.{AllocError}
use Rattle.log_reports.specs.declared.marks.Detail.{Detail}
use Rattle.log_reports.specs.declared.marks.Detail.TheVariants.{Ends, Frames}
use Rattle.log_reports.specs.declared.marks.Mark.{Mark}
use Rattle.log_lines.specs.Objects.{Named, object_line, member_text, rest_text}
use Rattle.log_lines.specs.Meanings.{with_explained, explained_text}
use Rattle.log_lines.specs.Frames.{with_frames, frames_text}
use Rattle.log_lines.proofs.Joined.{same_text}
use Rattle.log_lines.proofs.Spelled.{line_spelled}

by_explained : (lines : List (List ℕ)) (ms : List Named) → explained_text lines ++ rest_text ms ≡ rest_text (with_explained lines ms)
by_explained [] ms = refl
by_explained (l ∷ ls) ms = refl

by_frames : (detail : Detail) (marks : List Mark) (ms : List Named) → frames_text detail marks ++ rest_text ms ≡ rest_text (with_frames detail marks ms)
by_frames Ends marks ms = refl
by_frames Frames marks ms = refl

abbrev pub first_text : Named → List ℕ
first_text m = codes "{" ++ member_text false m.0 m.1

abbrev pub later_text : Named → List ℕ
later_text m = member_text true m.0 m.1

spelled : (m : Named) (ms : List Named) → first_text m ++ rest_text ms ≡ object_line (m ∷ ms)
spelled m ms = append_assoc (codes "{") (member_text false m.0 m.1) (rest_text ms) ∙ sym (line_spelled m ms)

-- the line of an object
pub line_put : (result : Result (Unit {0}) AllocError) (a b : List ℕ) (m : Named) (ms : List Named) → OnOk result (b ≡ a ++ (first_text m ++ rest_text ms)) → OnOk result (b ≡ a ++ object_line (m ∷ ms))
line_put result a b m ms p = same_text result a b _ _ p (spelled m ms)

-- the line of an object with lines in words behind its first member
pub lines_put : (result : Result (Unit {0}) AllocError) (a b : List ℕ) (m : Named) (lines : List (List ℕ)) (ms : List Named)
    → OnOk result (b ≡ a ++ (first_text m ++ (explained_text lines ++ rest_text ms))) → OnOk result (b ≡ a ++ object_line (m ∷ with_explained lines ms))
lines_put result a b m lines ms p = same_text result a b _ _ p (ap (λ s. first_text m ++ s) (by_explained lines ms) ∙ spelled m (with_explained lines ms))

-- the line of an object with frames behind its third member
pub marks_put : (result : Result (Unit {0}) AllocError) (a b : List ℕ) (m n o : Named) (detail : Detail) (marks : List Mark) (ms : List Named)
    → OnOk result (b ≡ a ++ (first_text m ++ (later_text n ++ (later_text o ++ (frames_text detail marks ++ rest_text ms))))) → OnOk result (b ≡ a ++ object_line (m ∷ n ∷ o ∷ with_frames detail marks ms))
marks_put result a b m n o detail marks ms p =
    same_text result a b _ _ p (ap (λ s. first_text m ++ (later_text n ++ (later_text o ++ s))) (by_frames detail marks ms) ∙ spelled m (n ∷ o ∷ with_frames detail marks ms))

-- the line of an object with both
pub both_put : (result : Result (Unit {0}) AllocError) (a b : List ℕ) (m n o : Named) (lines : List (List ℕ)) (detail : Detail) (marks : List Mark) (ms : List Named)
    → OnOk result (b ≡ a ++ (first_text m ++ (later_text n ++ (explained_text lines ++ (later_text o ++ (frames_text detail marks ++ rest_text ms))))))
    → OnOk result (b ≡ a ++ object_line (m ∷ n ∷ with_explained lines (o ∷ with_frames detail marks ms)))
both_put result a b m n o lines detail marks ms p =
    let others : List Named = o ∷ with_frames detail marks ms in
    same_text result a b _ _ p
    (ap (λ s. first_text m ++ (later_text n ++ (explained_text lines ++ (later_text o ++ s)))) (by_frames detail marks ms)
    ∙ ap (λ s. first_text m ++ (later_text n ++ s)) (by_explained lines others) ∙ spelled m (n ∷ with_explained lines others))
