-- Numbers and bytes in so many digits.
use Rattle.std.specs.Prelude.{ℕ, zero, suc, ◌+◌, ◌/◌, ◌%◌, List, [], ◌∷◌, ◌++◌, flat_map, nat_lt, if◌then◌else◌}

-- the digit of a value, in upper case
abbrev pub digit_char : ℕ → ℕ
digit_char n = if nat_lt n 10 then 48 + n else 55 + n

-- a number in so many digits of a base
abbrev pub digits : (base width n : ℕ) → List ℕ
digits base zero n = []
digits base (suc width) n = digits base width (n / base) ++ digit_char (n % base) ∷ []

-- bytes with no space between them
abbrev pub unspaced : List ℕ → List ℕ
unspaced bytes = flat_map (λ b. digits 16 2 b) bytes
