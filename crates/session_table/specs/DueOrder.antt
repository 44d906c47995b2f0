-- The next key of a table: the least of those whose state passes a test.
use Rattle.std.specs.Prelude.{ℕ, ◌≡◌, Bool, true, false, Option, Some, find}
use Rattle.std.specs.Option.{MatchOption, option_map, option_map_or}
use Rattle.std.specs.Ordering.{is_gt}
use Rattle.std.specs.FinMap as map
use Rattle.tick_timers.specs.Timers.{is_due}
use Rattle.session_table.specs.declared.key.Key.{Key}
use Rattle.session_table.specs.declared.incoming.Incoming.{Incoming}
use Rattle.session_table.specs.Key.{key_cmp, is_above_key}
use Rattle.session_table.specs.Incoming.{timer_of}
use Rattle.session_table.specs.Sessions.{Sessions}

module _ {T : Type 0} where
  -- the timer of the state is due at tick `now`
  abbrev pub is_due_now : (now : ℕ) → Key → T × Incoming → Bool
  is_due_now now k v = is_due (timer_of v.1) now

  -- the key is above that bound, if there is one
  abbrev pub is_above_low : Option Key → Key → T × Incoming → Bool
  is_above_low low k v = is_above_key low k

  -- the key has a state, which passes
  abbrev pub IsPicked : Sessions T → (Key → T × Incoming → Bool) → Key → Type 0
  IsPicked m pick k = (v : T × Incoming) × (map.get m k ≡ Some (Some v)) × (pick k v ≡ true)

  -- the least of the keys that pass, or none if none passes
  abbrev pub IsLeastPicked : Sessions T → (Key → T × Incoming → Bool) → Option Key → Type 0
  IsLeastPicked m pick r =
      MatchOption r
      ((k : Key) → ¬ IsPicked m pick k)
      (λ k. IsPicked m pick k × ((l : Key) → IsPicked m pick l → is_gt (key_cmp k l) ≡ false))

  -- the entry isn't held, and passes
  abbrev pub passes : (Key → T × Incoming → Bool) → Key × Option (T × Incoming) → Bool
  passes pick e = option_map_or (pick e.0) e.1 false

  -- the first key that passes, in the order of the keys
  abbrev pub first_picked : Sessions T → (Key → T × Incoming → Bool) → Option Key
  first_picked m pick = option_map (λ e. e.0) (find (passes pick) (map.entries m))

  -- the first key whose timer is due
  abbrev pub first_due : Sessions T → (now : ℕ) → Option Key
  first_due m now = first_picked m (is_due_now now)

  -- the first key above this one, or of all
  abbrev pub first_above : Sessions T → Option Key → Option Key
  first_above m low = first_picked m (is_above_low low)
