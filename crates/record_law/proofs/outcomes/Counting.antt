-- How often a number stands in a list.
use Rattle.std.proofs.Common.{◌≡◌, ◌≢◌, ℕ, ◌+◌, ◌≤◌, ◌==◌, Bool, cond, List, [], ◌∷◌, ◌++◌, refl, ap, arith, eq-eqb}
use Rattle.std.specs.Prelude.{All, AllPairs}
use Rattle.std.proofs.lemmas.List.Elements.{All-cons}
use Rattle.std.proofs.lemmas.List.Kept.{AllPairs-cons}

abbrev pub one_if : Bool → ℕ
one_if b = cond b 1 0

-- how often n stands there
abbrev pub times : ℕ → List ℕ → ℕ
times n [] = 0
times n (x ∷ xs) = one_if (x == n) + times n xs

pub times-append : (n : ℕ) (xs ys : List ℕ) → times n (xs ++ ys) ≡ times n xs + times n ys
times-append n [] ys = omega arith
times-append n (x ∷ xs) ys = let e : times n (xs ++ ys) ≡ times n xs + times n ys = times-append n xs ys in omega (arith, e)

pub times-none : (n : ℕ) (xs : List ℕ) → xs ≡ [] → times n xs ≡ 0
times-none n xs e = ap (times n) e

-- n itself is there
pub times-here : (n : ℕ) (xs : List ℕ) → 1 ≤ times n (n ∷ xs)
times-here n xs = let e : one_if (n == n) ≡ 1 = ap one_if (eq-eqb n n refl) in omega (arith, e)

-- what holds of each number that is there holds of all
pub all_there : (P : ℕ → Type 0) (xs : List ℕ) → ((n : ℕ) → 1 ≤ times n xs → P n) → All P xs
all_there P [] h = λ k d l. absurd (omega (arith, l))
all_there P (x ∷ xs) h = All-cons P x xs (h x (times-here x xs)) (all_there P xs (λ n l. h n (omega (arith, l))))

-- no number stands there twice
pub apart : (xs : List ℕ) → ((n : ℕ) → times n xs ≤ 1) → AllPairs (λ a b. a ≢ b) xs
apart [] h = λ i j d l k. absurd (omega (arith, k))
apart (x ∷ xs) h = AllPairs-cons (λ a b. a ≢ b) x xs (all_there (λ n. x ≢ n) xs other) (apart xs (λ n. let l : one_if (x == n) + times n xs ≤ 1 = h n in omega (arith, l)))
  where
    other : (n : ℕ) → 1 ≤ times n xs → x ≢ n
    other n l e = let m : one_if (x == n) + times n xs ≤ 1 = h n in let k : one_if (x == n) ≡ 1 = ap one_if (eq-eqb x n e) in absurd (omega (arith, l, m, k))
