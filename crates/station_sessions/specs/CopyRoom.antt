-- The room for the copies of a message, made before the step that completes it.
use Rattle.std.specs.Prelude.{ℕ, ◌≡◌, ◌-◌, ◌≤◌, Bool, true, List, length, All}

-- there is room for a copy at each port of the set but one, of a message of so many bytes
pub record IsRoomFor (size : ℕ) (room : Bool) (set copies : List ℕ) : Type 0 where
  pub count : room ≡ true → length copies ≡ length set - 1
  pub enough : All (λ place. size ≤ place) copies
