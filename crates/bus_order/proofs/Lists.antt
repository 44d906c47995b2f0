-- Elements of lists that are made of others.
use Rattle.std.proofs.Common.{◌≡◌, ℕ, zero, suc, ◌+◌, ◌<◌, List, [], ◌∷◌, ◌++◌, length, drop, replicate, Some, None, refl, ap, arith}
use Rattle.std.specs.Prelude.{slice_get}

pub slice_get-drop : {X : Type 0} (n : ℕ) (xs : List X) (k m : ℕ) → m ≡ n + k → slice_get (drop n xs) k ≡ slice_get xs m
slice_get-drop zero xs k m e = let s : k ≡ m = omega arith in ap (slice_get xs) s
slice_get-drop (suc n) [] k m e = refl
slice_get-drop (suc n) (x ∷ xs) k zero e = absurd (omega arith)
slice_get-drop (suc n) (x ∷ xs) k (suc m) e = slice_get-drop n xs k m (omega arith)

pub slice_get-left : {X : Type 0} (xs ys : List X) (k : ℕ) → k < length xs → slice_get (xs ++ ys) k ≡ slice_get xs k
slice_get-left [] ys k h = absurd (omega arith)
slice_get-left (x ∷ xs) ys zero h = refl
slice_get-left (x ∷ xs) ys (suc k) h = slice_get-left xs ys k (omega arith)

pub slice_get-right : {X : Type 0} (xs ys : List X) (k m : ℕ) → k ≡ length xs + m → slice_get (xs ++ ys) k ≡ slice_get ys m
slice_get-right [] ys k m e = let s : k ≡ m = omega arith in ap (slice_get ys) s
slice_get-right (x ∷ xs) ys zero m e = absurd (omega arith)
slice_get-right (x ∷ xs) ys (suc k) m e = slice_get-right xs ys k m (omega arith)

pub slice_get-replicate_none : {X : Type 0} (n k : ℕ) (x : X) → slice_get (replicate n None) k ≡ Some (Some x) → ⊥
slice_get-replicate_none zero k x e = cc
slice_get-replicate_none (suc n) zero x e = cc
slice_get-replicate_none (suc n) (suc k) x e = slice_get-replicate_none n k x e
