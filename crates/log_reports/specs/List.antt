-- The lines of a fault list.
use Rattle.std.specs.Prelude.{ℕ, ◌%◌, List, [], ◌∷◌, ◌++◌, length, codes, Bool, ◌&&◌, ◌||◌, not, ◌==◌, nat_lt, if◌then◌else◌}
use Rattle.text_digits.specs.Digits.{unspaced}
use Rattle.log_reports.specs.Lines.{wrong_length}
use Rattle.log_reports.specs.Padding.{is_filled}
use Rattle.log_reports.specs.Lamps.{lamps_line, flash_line}
use Rattle.log_reports.specs.Faults.{fault_line}

abbrev pub padding_line : List ℕ → List ℕ
padding_line bytes = codes "padding isn't FF: bytes " ++ unspaced bytes

-- bytes behind the last fault, which are to be FF
abbrev pub padding_lines : List ℕ → List (List ℕ)
padding_lines bytes = if is_filled bytes then [] else padding_line bytes ∷ []

-- a line for each four bytes
unfoldable pub faults_lines : List ℕ → List (List ℕ)
faults_lines (a ∷ b ∷ c ∷ d ∷ rest) = fault_line a b c d ∷ faults_lines rest
faults_lines rest = padding_lines rest

-- how the lamps flash, unless no byte says so
abbrev pub flash_lines : ℕ → List (List ℕ)
flash_lines b = if b == 255 then [] else flash_line b ∷ []

-- the lamps, how they flash, and the faults
abbrev pub lines_from : List ℕ → List (List ℕ)
lines_from [] = []
lines_from (lamps ∷ []) = []
lines_from (lamps ∷ flash ∷ list) = lamps_line lamps ∷ flash_lines flash ++ faults_lines list

-- two bytes and four for each fault; or one fault in a frame, with two bytes of padding
abbrev pub is_length : ℕ → Bool
is_length n = n == 8 || (not (nat_lt n 6) && n % 4 == 2)

abbrev pub fault_list : List ℕ → List (List ℕ)
fault_list bytes = if is_length (length bytes) then lines_from bytes else wrong_length (length bytes) ∷ []
