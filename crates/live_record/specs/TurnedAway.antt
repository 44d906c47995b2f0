-- Messages that found no place in the ring of an inbox.
use Rattle.std.specs.Prelude.{ℕ, ◌+◌, Bool, false, not, cond, List, ◌∷◌, []}
use Rattle.segment_law.specs.declared.call.Call.{Call}
use Rattle.segment_law.specs.declared.call.Call.TheVariants.{Take, TakeAgain}
use Rattle.stored_calls.specs.declared.stored.Stored.{Stored}

-- a call that gives without room for what it gives
abbrev pub is_turned_away : Call → Bool
is_turned_away (Take station room) = not room
is_turned_away (TakeAgain station room) = not room
is_turned_away _ = false

-- how many of these calls gave without room
abbrev pub count_turned_away : List Stored → ℕ
count_turned_away [] = 0
count_turned_away (x ∷ xs) = cond {A = ℕ} (is_turned_away x.call) 1 0 + count_turned_away xs
