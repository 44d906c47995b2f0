-- A line that doesn't end by a carriage return stays as it is.
use Rattle.std.proofs.Common.{◌≡◌, ◌≢◌, ℕ, suc, ◌+◌, ◌<◌, Bool, true, false, cond, List, [], ◌∷◌, ◌++◌, length, length-append, length-drop, take, drop, Option, Some, None, IfSome, option_map, refl, arith, ◌==◌, if◌then◌else◌}
use Rattle.std.proofs.lemmas.Bool.{ne_eqb}
use Rattle.text_digits.specs.Numerals.{◌>>=◌}
use Rattle.log_fields.specs.Fields.{place_of}
use Rattle.log_text.specs.Reading.{before_return}

inside_by : (is : Bool) (o : Option ℕ) (n : ℕ) → IfSome o (λ at. at < n) → IfSome (cond is (Some 0) (option_map (λ at. at + 1) o)) (λ at. at < suc n)
inside_by true o n h = omega arith
inside_by false None n h = tt
inside_by false (Some at) n h = omega (arith, h)

-- a byte that isn't the last one stands before it
place_inside : (w : ℕ) (front : List ℕ) (b : ℕ) → b ≢ w → IfSome (place_of w (front ++ b ∷ [])) (λ at. at < length front)
place_inside w [] b n = rw (ne_eqb _ _ n) tt
place_inside w (x ∷ front) b n = inside_by (x == w) (place_of w (front ++ b ∷ [])) (length front) (place_inside w front b n)

abbrev cut_by : List ℕ → Option ℕ → Option (List ℕ × List ℕ)
cut_by line o = o >>= (λ at. Some (take at line, drop (at + 1) line))

bare_by : (line : List ℕ) (o : Option ℕ) (n : ℕ) → length line ≡ n + 1 → IfSome o (λ at. at < n)
    → elim (cut_by line o) as (λ r. List ℕ) [ None ↦ line | Some p ↦ if length p.1 == 0 then p.0 else line ] ≡ line
bare_by line None n l h = refl
bare_by line (Some at) n l h =
    let left : length (drop (at + 1) line) ≢ 0 = λ e. omega (arith, length-drop (at + 1) line, e, l, h) in
    rw (ne_eqb _ _ left) refl

pub stays_bare : (front : List ℕ) (b : ℕ) → b ≢ 13 → before_return (front ++ b ∷ []) ≡ front ++ b ∷ []
stays_bare front b n = bare_by (front ++ b ∷ []) (place_of 13 (front ++ b ∷ [])) (length front) (simp length-append (omega arith)) (place_inside 13 front b n)
