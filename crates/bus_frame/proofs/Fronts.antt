-- A front of bytes.
use Rattle.std.proofs.Common.{ℕ, zero, suc, ◌<◌, List, [], ◌∷◌, get_or, take, arith}

pub front_fits : (s : List ℕ) (n : ℕ) → ((i : ℕ) → get_or s i 0 < 256) → (i : ℕ) → get_or (take n s) i 0 < 256
front_fits [] zero h i = omega arith
front_fits [] (suc n) h i = omega arith
front_fits (b ∷ s) zero h i = omega arith
front_fits (b ∷ s) (suc n) h zero = h 0
front_fits (b ∷ s) (suc n) h (suc i) = front_fits s n (λ j. h (suc j)) i
