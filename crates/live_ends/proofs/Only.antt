-- One seat alone has changed.
use Rattle.std.proofs.Common.{◌≡◌, ℕ, zero, suc, List, ◌∷◌, set, get_or, refl, ◌∙◌, ap, []}
use Rattle.segment_rings.specs.Views.{SeatView}
use Rattle.live_ends.specs.Homes.{OnlyAt}

pub only_set : (k : ℕ) (ss : List SeatView) (t : SeatView) → OnlyAt k ss (set ss k t)
only_set k [] t = λ s. refl
only_set zero (x ∷ ss) t = λ s. refl
only_set (suc k) (x ∷ ss) t = λ s. ap (λ (l : List SeatView). x ∷ l) (only_set k ss t s)

pub only_trans : (k : ℕ) (ss ts us : List SeatView) → OnlyAt k ss ts → OnlyAt k ts us → OnlyAt k ss us
only_trans k ss ts us f g = λ s. g s ∙ ap (λ (l : List SeatView). set l k (get_or us k s)) (f s) ∙ twice k ss (get_or ts k s) (get_or us k s)
  where
    twice : (i : ℕ) (xs : List SeatView) (a b : SeatView) → set (set xs i a) i b ≡ set xs i b
    twice i [] a b = refl
    twice zero (x ∷ xs) a b = refl
    twice (suc i) (x ∷ xs) a b = ap (λ (l : List SeatView). x ∷ l) (twice i xs a b)
