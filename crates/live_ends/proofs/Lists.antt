-- Lists that are empty, and lists by their first item.
use Rattle.std.proofs.Common.{◌≡◌, List, ◌∷◌, length, drop, None, Some, refl, ap, arith, ◌≤◌, []}
use Rattle.std.specs.Prelude.{slice_get}
use Rattle.message_events.specs.declared.event.Event.{Event}

-- the events of a call by the first of them

pub untold : (es : List Event) → slice_get es 0 ≡ None → es ≡ []
untold [] none = refl
untold (e ∷ es) none = absurd cc

pub first_of : (es : List Event) (e : Event) → slice_get es 0 ≡ Some e → es ≡ e ∷ drop 1 es
first_of [] e is = absurd cc
first_of (x ∷ es) e is = let same : x ≡ e = cc in ap (λ (y : Event). y ∷ es) same

pub no_items : {T : Type 0} (xs : List T) → length xs ≤ 0 → xs ≡ []
no_items [] l = refl
no_items (x ∷ xs) l = absurd (omega (arith, l))
