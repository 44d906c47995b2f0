-- Digits, and the numbers and bytes that they write.
use Rattle.std.specs.Prelude.{ℕ, ◌+◌, ◌-◌, ◌*◌, ◌^◌, List, [], ◌∷◌, Bool, ◌&&◌, Option, Some, None, nat_lt, nat_le, if◌then◌else◌, option_and_then}

infixl 10 ◌>>=◌
abbrev pub ◌>>=◌ : {A B : Type 0} → Option A → (A → Option B) → Option B
o >>= f = option_and_then f o

abbrev pub is_between : ℕ → ℕ → ℕ → Bool
is_between low high n = nat_le low n && nat_le n high

-- the value of a digit: 0 to 9, A to F, a to f
abbrev pub digit_of : ℕ → Option ℕ
digit_of b = if is_between 48 57 b then Some (b - 48) else if is_between 65 70 b then Some (b - 55) else if is_between 97 102 b then Some (b - 87) else None

-- a digit below the base, put behind a number that stays below 2 ^ 64
abbrev pub put_digit : ℕ → ℕ → ℕ → Option ℕ
put_digit base n b = do
  d ← digit_of b
  if nat_lt d base && nat_lt (base * n + d) (2 ^ 64) then Some (base * n + d) else None

abbrev pub numeral_from : ℕ → ℕ → List ℕ → Option ℕ
numeral_from base n [] = Some n
numeral_from base n (b ∷ bs) = do
  m ← put_digit base n b
  numeral_from base m bs

abbrev pub pair_of : ℕ → ℕ → Option ℕ
pair_of a b = do
  high ← digit_of a
  low ← digit_of b
  Some (16 * high + low)

-- bytes, each of two hexadecimal digits
unfoldable pub pairs_of : List ℕ → Option (List ℕ)
pairs_of [] = Some []
pairs_of (a ∷ []) = None
pairs_of (a ∷ b ∷ rest) = do
  byte ← pair_of a b
  others ← pairs_of rest
  Some (byte ∷ others)
