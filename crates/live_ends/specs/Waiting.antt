-- The places of those that have news wait to be named.
use Rattle.std.specs.Prelude.{◌≡◌, ℕ, ◌+◌, ◌<◌, ◌≤◌, Bool, true, false, cond, List, ◌∷◌, length, map, Option, Some, None, slice_index_or, slice_set, []}
use Rattle.segment_rings.specs.Views.{DoorView}
use Rattle.live_ends.specs.Places.{times}

-- the doors of all ports, and room for more of them
pub record DoorsView : Type 0 where
  pub items : List DoorView
  pub spare : ℕ

-- how many are marked
abbrev pub count_marked : List Bool → ℕ
count_marked [] = 0
count_marked (m ∷ ms) = cond {A = ℕ} m 1 0 + count_marked ms

-- the places of those that are marked wait to be named, each of them once
pub record Wait (marks : List Bool) (waiting : List ℕ) : Type 0 where
  pub once : (k : ℕ) → times k waiting ≡ cond {A = ℕ} (slice_index_or marks k false) 1 0
  pub count : length waiting ≡ count_marked marks

-- of these things those that are marked wait, and there is room for all to wait
abbrev pub Waits : {X : Type 0} → (X → Bool) → List X → (waiting : List ℕ) → (room : ℕ) → Type 0
Waits f xs waiting room = Wait (map f xs) waiting × (length xs ≤ room)

-- the k-th is marked, and wasn't before; or, without one, nothing has changed
abbrev pub Marks : Option ℕ → (before after : List Bool) → Type 0
Marks None before after = after ≡ before
Marks (Some k) before after = (k < length before) × (slice_index_or before k false ≡ false) × (after ≡ slice_set before k true)
