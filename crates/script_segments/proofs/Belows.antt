-- Texts printed one behind the other: those of the numbers below one are the text of each in turn.
use Rattle.std.proofs.Common.{◌≡◌, ℕ, ◌+◌, ◌<◌, ◌≤◌, suc, List, [], ◌∷◌, ◌++◌, length, take, get_or, refl, sym, ◌∙◌, ap, append_assoc, arith}
use Rattle.std.specs.List.{flat_map}
use Rattle.std.proofs.lemmas.Grind.{flat_map-append}
use Rattle.std.proofs.lemmas.List.{append-nil, take_more}
use Rattle.script_segments.specs.Texts.{below}

-- nothing is printed yet
pub none_put : (out : List ℕ) (text : ℕ → List ℕ) → out ≡ out ++ below 0 text
unfolding below
none_put out text = sym (append-nil out)

below_more : (n : ℕ) (text : ℕ → List ℕ) → below (n + 1) text ≡ below n text ++ text n
unfolding below
below_more n text = let e : n + 1 ≡ suc n = omega arith in rw e refl

-- one number more
pub more_put : (old mid new : List ℕ) (n : ℕ) (text : ℕ → List ℕ) → mid ≡ old ++ below n text → new ≡ mid ++ text n → new ≡ old ++ below (n + 1) text
more_put old mid new n text h k = k ∙ ap (λ v. v ++ text n) h ∙ append_assoc old (below n text) (text n) ∙ ap (λ v. old ++ v) (sym (below_more n text))

-- and the last one
pub last_put : (old mid new : List ℕ) (n top last : ℕ) (text : ℕ → List ℕ) → n ≤ top → top ≤ n → top ≡ last → mid ≡ old ++ below n text → new ≡ mid ++ text top → new ≡ old ++ below (suc last) text
last_put old mid new n top last text below_top above_top is h k =
    let e : suc last ≡ top + 1 = omega (arith, is) in
    let f : n ≡ top = omega (arith, below_top, above_top) in
    rw e (more_put old mid new top text (h ∙ ap (λ m. old ++ below m text) f) k)

-- texts of the elements of a list, one more
pub one_put : {X : Type 0} (text : X → List ℕ) (xs : List X) (i : ℕ) (x : X) (old mid new : List ℕ) → i < length xs → mid ≡ old ++ flat_map text (take i xs) → new ≡ mid ++ text (get_or xs i x) → new ≡ old ++ flat_map text (take (i + 1) xs)
one_put text xs i x old mid new l h k =
    let one : flat_map text (take (i + 1) xs) ≡ flat_map text (take i xs) ++ text (get_or xs i x) =
    ap (flat_map text) (take_more xs i x l) ∙ flat_map-append text (take i xs) (get_or xs i x ∷ []) ∙ ap (λ v. flat_map text (take i xs) ++ v) (append-nil (text (get_or xs i x))) in
    k ∙ ap (λ v. v ++ text (get_or xs i x)) h ∙ append_assoc old (flat_map text (take i xs)) (text (get_or xs i x)) ∙ ap (λ v. old ++ v) (sym one)
