use Rattle.std.proofs.Common.{◌≡◌, ℕ, ◌<◌, ◌≤◌, ◌∙◌, Bool, true, false, Option, None, Some, map, get_or, refl, sym, ap, nat_lt, if◌then◌else◌, unwrap_or, arith}
use Rattle.std.proofs.lemmas.Bool.{ltb-true}
use Rattle.std.proofs.lemmas.List.FromFn.{get_or-map-range_with_len}
use Rattle.std.specs.List.{range_with_len}
use Rattle.text_digits.specs.Numerals.{digit_of}
use Rattle.text_digits.specs.declared.reading.TheConstants.{VALUES}
use Rattle.text_digits.proofs.reading.value.Goals as goal

abbrev value_of : ℕ → ℕ
value_of b = unwrap_or (digit_of b) 16

abbrev small : Option ℕ → Bool
small o = elim o [ None ↦ true | Some d ↦ nat_lt d 16 ]

-- the table has the value of each byte, and none is above 15
table_is : VALUES ≡ map value_of (range_with_len 0 256)
table_is = refl

all_small : map (λ b. small (digit_of b)) (range_with_len 0 256) ≡ map (λ _. true) (range_with_len 0 256)
all_small = refl

read : (b : ℕ) → b < 256 → get_or VALUES b 0 ≡ value_of b
read b h = ap (λ t. get_or t b 0) table_is ∙ get_or-map-range_with_len value_of 0 256 b b 0 h (omega arith)

is_small : (b : ℕ) → b < 256 → small (digit_of b) ≡ true
is_small b h =
    sym (get_or-map-range_with_len (λ b. small (digit_of b)) 0 256 b b false h (omega arith)) ∙ ap (λ t. get_or t b false) all_small
    ∙ get_or-map-range_with_len (λ _. true) 0 256 b b false h (omega arith)

by_digit : (o : Option ℕ) → small o ≡ true → o ≡ (if nat_lt (unwrap_or o 16) 16 then Some (unwrap_or o 16) else None)
by_digit None h = refl
by_digit (Some d) h = rw h refl

at_most : (o : Option ℕ) → small o ≡ true → unwrap_or o 16 ≤ 16
at_most None h = omega arith
at_most (Some d) h = let l = ltb-true _ _ h in omega (arith, l)

pub returns-clause-value : goal.returns-clause-value
returns-clause-value c =
    rw (c.from.ensures, read c.args.byte (omega arith)) (by_digit (digit_of c.args.byte) (is_small c.args.byte (omega arith)))

pub returns-clause-small : goal.returns-clause-small
returns-clause-small c =
    rw (c.from.ensures, read c.args.byte (omega arith)) (at_most (digit_of c.args.byte) (is_small c.args.byte (omega arith)))
