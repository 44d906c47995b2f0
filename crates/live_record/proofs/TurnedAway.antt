-- How many calls gave without room, with one call more.
use Rattle.std.proofs.Common.{◌≡◌, ℕ, ◌+◌, ◌≤◌, Bool, true, false, cond, List, ◌∷◌, ◌++◌, length, arith, []}
use Rattle.stored_calls.specs.declared.stored.Stored.{Stored}
use Rattle.live_record.specs.TurnedAway.{is_turned_away, count_turned_away}

within_at : (b : Bool) (n m : ℕ) → n ≤ m → cond {A = ℕ} b 1 0 + n ≤ 1 + m
within_at true n m l = omega arith
within_at false n m l = omega arith

pub turned_within : (xs : List Stored) → count_turned_away xs ≤ length xs
turned_within [] = omega arith
turned_within (x ∷ xs) = let h = within_at (is_turned_away x.call) (count_turned_away xs) (length xs) (turned_within xs) in omega arith

pub bit_within : (b : Bool) → cond {A = ℕ} b 1 0 ≤ 1
bit_within true = omega arith
bit_within false = omega arith

pub turned_push : (xs : List Stored) (x : Stored) → count_turned_away (xs ++ x ∷ []) ≡ count_turned_away xs + cond {A = ℕ} (is_turned_away x.call) 1 0
turned_push [] x = omega arith
turned_push (y ∷ xs) x = let h = turned_push xs x in omega arith
