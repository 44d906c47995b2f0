-- The events of a call by their places: the first stands apart, the others behind it.
use Rattle.std.proofs.Common.{◌≡◌, ℕ, zero, suc, ◌-◌, List, [], ◌++◌, drop, Option, Some, None, refl, sym, ap, ◌∙◌, arith}
use Rattle.std.specs.Prelude.{slice_get, option_to_list}
use Rattle.message_events.specs.declared.event.Event.{Event}

-- the first
pub first_is : (first : Option Event) (rest : List Event) → (first ≡ None → rest ≡ []) → slice_get (option_to_list first ++ rest) 0 ≡ first
first_is None rest h = ap (λ (xs : List Event). slice_get xs 0) (h refl)
first_is (Some e) rest h = refl

-- one behind it
pub behind_is : (first : Option Event) (rest : List Event) (k : ℕ) → (first ≡ None → rest ≡ []) → (k ≡ 0 → ⊥) → slice_get (option_to_list first ++ rest) k ≡ slice_get rest (k - 1)
behind_is first rest zero h some = absurd (some refl)
behind_is None rest (suc k) h some = ap (λ (xs : List Event). slice_get xs (suc k)) (h refl) ∙ sym (ap (λ (xs : List Event). slice_get xs (suc k - 1)) (h refl))
behind_is (Some e) rest (suc k) h some = let same : k ≡ suc k - 1 = omega arith in ap (slice_get rest) same

-- all behind it
pub rest_is : (first : Option Event) (rest : List Event) → (first ≡ None → rest ≡ []) → drop 1 (option_to_list first ++ rest) ≡ rest
rest_is None rest h = ap (λ (xs : List Event). drop 1 xs) (h refl) ∙ sym (h refl)
rest_is (Some e) rest h = refl

pub ruleset event_laws = (first_is, behind_is, rest_is)
