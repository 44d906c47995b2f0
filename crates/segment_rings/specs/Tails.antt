-- What is kept of a list that only grows: its end.
use Rattle.std.specs.Prelude.{◌≡◌, ℕ, ◌-◌, ◌≤◌, ◌^◌, List, [], length, drop, min}

-- gone: how many of the list's first items are kept no more; items: the others; spare: room for more of them
pub record Tail (T : Type 0) : Type 0 where
  pub gone : ℕ
  pub items : List T
  pub spare : ℕ

-- no more than so many items go
abbrev pub most_gone : ℕ
most_gone = 2 ^ 63

-- the tail is what is kept of this list
abbrev pub IsTailOf : {T : Type 0} → Tail T → List T → Type 0
IsTailOf k xs = (k.gone ≤ length xs) × (k.items ≡ drop k.gone xs)

abbrev pub new_tail : {T : Type 0} → ℕ → Tail T
new_tail spare = record { gone = 0; items = []; spare = spare }

-- so many of a list's first items were no longer kept before, and so many afterwards: never fewer
abbrev pub GoesOn : {T : Type 0} → (before after : ℕ) → List T → Type 0
GoesOn before after xs = (before ≤ after) × (after ≤ length xs)

-- how many of so many items are known to have left their ring, which has so many places and this many free ones
abbrev pub known_out : (places free count : ℕ) → ℕ
known_out places free count = min (count - (places - free)) most_gone
