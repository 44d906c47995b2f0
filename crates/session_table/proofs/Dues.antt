-- The tick from which on a table is due: by a walk over the index, in whatever order it stands.
use Rattle.std.proofs.Common.{◌≡◌, ℕ, ◌^◌, ◌<◌, Bool, true, false, cond, ◌||◌, List, [], ◌∷◌, Option, Some, None, refl, sym, ap, ◌∙◌}
use Rattle.std.specs.Prelude.{is_some}
use Rattle.std.specs.List.{IsDistinct, list_any}
use Rattle.std.specs.Map.{keys_of}
use Rattle.std.specs.Ordering.{is_lt}
use Rattle.slab.specs.Slab.{Slab}
use Rattle.tick_timers.specs.Due.{IsDueFrom, has_come}
use Rattle.session_table.specs.declared.key.Key.{Key}
use Rattle.session_table.specs.declared.place.Place.{Place}
use Rattle.session_table.specs.Key.{key_cmp, key_eq, lesser_of}
use Rattle.session_table.specs.DueOrder.{first_due, is_due_now}
use Rattle.session_table.specs.Shape.{sessions_of}
use Rattle.session_table.proofs.Least.{least, least_from, picks}
use Rattle.session_table.proofs.First.{least_is_first}

some_lesser : (f : Option Key) (k : Key) → is_some (lesser_of f k) ≡ true
some_lesser None k = refl
some_lesser (Some l) k = by (is_lt (key_cmp k l))
  where
    by : (b : Bool) → is_some (cond b (Some k) (Some l)) ≡ true
    by true = refl
    by false = refl

or_false : (b : Bool) → b ≡ (b || false)
or_false true = refl
or_false false = refl

or_true : (b : Bool) → true ≡ (b || true)
or_true true = refl
or_true false = refl

-- the walk finds a key exactly where one was found, or one passes
some_least : (test : Key × ℕ → Bool) (f : Option Key) (es : List (Key × ℕ)) → is_some (least_from test f es) ≡ (is_some f || list_any test es)
some_least test f [] = or_false (is_some f)
some_least test f (e ∷ es) = some_least test (cond (test e) (lesser_of f e.0) f) es ∙ by (test e)
  where
    by : (b : Bool) → (is_some (cond b (lesser_of f e.0) f) || list_any test es) ≡ (is_some f || (b || list_any test es))
    by true = ap (λ c. c || list_any test es) (some_lesser f e.0) ∙ or_true (is_some f)
    by false = refl

-- one entry more
pub one_more : (a b x rest all : Bool) → (a || (x || rest)) ≡ all → b ≡ x → ((a || b) || rest) ≡ all
one_more true b x rest all e same = e
one_more false b x rest all e same = ap (λ c. c || rest) same ∙ e

pub come_or_nothing : (b : Bool) → (b || false) ≡ b
come_or_nothing b = sym (or_false b)

module _ {T : Type 0} (places : Slab (Place T)) (es : List (Key × ℕ)) (distinct : IsDistinct key_eq (keys_of es)) where
  -- the tick that has come exactly where an entry is due is that of the table
  pub due_from_walk : (tick : Option ℕ) → ((n : ℕ) → n < 2 ^ 64 → has_come tick n ≡ list_any (picks places (is_due_now {T = T} n)) es) → IsDueFrom (λ n. is_some (first_due (sessions_of places es) n)) tick
  due_from_walk tick walked n within =
      ap is_some (sym (least_is_first (sessions_of places es) (is_due_now n) (least_from (picks places (is_due_now n)) None es) (least places es (is_due_now n) distinct)))
      ∙ some_least (picks places (is_due_now n)) None es
      ∙ sym (walked n within)
