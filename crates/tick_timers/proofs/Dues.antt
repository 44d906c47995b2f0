-- The earlier of two ticks has come exactly where one of both has.
use Rattle.std.proofs.Common.{◌≡◌, ℕ, Bool, true, false, cond, ◌||◌, Option, Some, None, nat_le, refl, sym, ap, ◌∙◌, arith}
use Rattle.std.proofs.lemmas.Bool.Decides.{nat_tests}
use Rattle.std.proofs.lemmas.Grind.{common_steps}
use Rattle.tick_timers.specs.Due.{has_come, earlier_of, IsDueFrom}

lesser_come : (a b n : ℕ) → has_come (cond (nat_le a b) (Some a) (Some b)) n ≡ (nat_le a n || nat_le b n)
lesser_come a b n = by (nat_le a b) refl
  where
    by : (c : Bool) → nat_le a b ≡ c → has_come (cond c (Some a) (Some b)) n ≡ (nat_le a n || nat_le b n)
    by true e = grind (arith, nat_tests, common_steps)
    by false e = grind (arith, nat_tests, common_steps)

or_false : (b : Bool) → b ≡ (b || false)
or_false true = refl
or_false false = refl

pub earlier_come : (a b : Option ℕ) (n : ℕ) → has_come (earlier_of a b) n ≡ (has_come a n || has_come b n)
earlier_come None b n = refl
earlier_come (Some a) None n = or_false (nat_le a n)
earlier_come (Some a) (Some b) n = lesser_come a b n

-- what is due where one or the other is due is due from the earlier of both ticks
pub due_from_either : (due other : ℕ → Bool) (a b : Option ℕ) → IsDueFrom due a → IsDueFrom other b → IsDueFrom (λ n. due n || other n) (earlier_of a b)
due_from_either due other a b is is_other n within =
    ap (λ c. c || other n) (is n within) ∙ ap (λ c. has_come a n || c) (is_other n within) ∙ sym (earlier_come a b n)
