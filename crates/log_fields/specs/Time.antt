-- Times of frames, in microseconds: how they are read and written.
use Rattle.std.specs.Prelude.{ℕ, ◌+◌, ◌*◌, ◌/◌, ◌%◌, ◌^◌, List, [], ◌∷◌, ◌++◌, length, ◌||◌, not, Option, Some, None, ◌==◌, nat_lt, if◌then◌else◌}
use Rattle.text_digits.specs.Digits.{digits}
use Rattle.text_digits.specs.Numerals.{◌>>=◌, numeral_from}
use Rattle.log_fields.specs.Fields.{cut_at}

-- a time in microseconds, with six digits behind the point
unfoldable pub time_of : (seconds micros : List ℕ) → Option ℕ
time_of seconds micros = if length seconds == 0 || not (length micros == 6) then None else (do
  s ← numeral_from 10 0 seconds
  m ← numeral_from 10 0 micros
  if nat_lt (s * 1000000 + m) (2 ^ 64) then Some (s * 1000000 + m) else None)

-- the seconds and the microseconds of a time, with a point between them
unfoldable pub time_word : List ℕ → Option ℕ
time_word word = do
  halves ← cut_at 46 word
  time_of halves.0 halves.1

-- ten digits of seconds, or fourteen from 10^10 seconds on
abbrev pub seconds_width : ℕ → ℕ
seconds_width seconds = if nat_lt seconds 10000000000 then 10 else 14

unfoldable pub time_text : ℕ → List ℕ
time_text time = 40 ∷ digits 10 (seconds_width (time / 1000000)) (time / 1000000) ++ 46 ∷ digits 10 6 (time % 1000000) ++ 41 ∷ []
