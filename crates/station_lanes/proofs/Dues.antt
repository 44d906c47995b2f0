-- A lane is due exactly where one up to the last is: by one destination after another.
use Rattle.std.proofs.Common.{◌≡◌, ℕ, ◌+◌, Bool, true, false, ◌||◌, Option, Some, None, refl, ◌∙◌, add-one}
use Rattle.std.specs.Prelude.{is_some}
use Rattle.station_lanes.specs.LaneReaders.{found_or, least_below}
use Rattle.tick_timers.specs.Due.{IsDueFrom, earlier_of}
use Rattle.tick_timers.proofs.Dues.{due_from_either}

some_or : (o : Option ℕ) (b : Bool) (n : ℕ) → is_some (found_or o b n) ≡ (is_some o || b)
some_or (Some k) b n = refl
some_or None true n = refl
some_or None false n = refl

-- one destination more
pub some_next : (test : ℕ → Bool) (i : ℕ) → is_some (least_below test (i + 1)) ≡ (is_some (least_below test i) || test i)
unfolding least_below
some_next test i = rw add-one (some_or (least_below test i) (test i) i)

-- the tick of the destinations so far, and that of one more
pub due_next : (test : ℕ → ℕ → Bool) (i : ℕ) (tick more : Option ℕ) → IsDueFrom (λ now. is_some (least_below (test now) i)) tick → IsDueFrom (λ now. test now i) more → IsDueFrom (λ now. is_some (least_below (test now) (i + 1))) (earlier_of tick more)
due_next test i tick more is is_more now within =
    some_next (test now) i ∙ due_from_either (λ n. is_some (least_below (test n) i)) (λ n. test n i) tick more is is_more now within

none_at_first : (test : ℕ → Bool) → is_some (least_below test 0) ≡ false
unfolding least_below
none_at_first test = refl

pub due_at_first : (test : ℕ → ℕ → Bool) → IsDueFrom (λ now. is_some (least_below (test now) 0)) None
due_at_first test now within = none_at_first (test now)
