-- The codes of answers.
use Rattle.std.specs.Prelude.{ℕ, Option, Some, None, Result, Ok, Err}

-- the code of an optional result
abbrev pub found_code : {A : Type 0} → Option A → ℕ
found_code (Some _) = 0
found_code None = 65

-- the code of a call that is done, or has a cause
abbrev pub value_code : {A E : Type 0} → (cause : E → ℕ) → Result A E → ℕ
value_code cause (Ok _) = 0
value_code cause (Err error) = cause error
