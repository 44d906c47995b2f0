-- Calls on what a handle has.
use Rattle.std.specs.Prelude.{◌≡◌, ℕ, Option, Some, None, Result, Ok, Err}

-- a call was made on the handle's value, the handle has the value after it, and the code is that of its answer
pub record IsMadeOn {S A : Type 0} (code : A → ℕ) (does : (before after : S) → A → Type 0) (of out : Option S) (result : ℕ) : Type 0 where
  pub before : S
  pub after : S
  pub answer : A
  pub had : of ≡ Some before
  pub has : out ≡ Some after
  pub done : does before after answer
  pub is_code : result ≡ code answer

-- a call's answer, with its code
pub record IsCoded {A : Type 0} (code : A → ℕ) (is : A → Type 0) (result : ℕ) : Type 0 where
  pub answer : A
  pub done : is answer
  pub is_code : result ≡ code answer

-- What is written

-- a number is written, if there is one; else the place is unchanged
abbrev pub IsWritten : {A E : Type 0} → (number : A → ℕ) → (old new : ℕ) → Result A E → Type 0
IsWritten number old new (Ok value) = new ≡ number value
IsWritten number old new (Err error) = new ≡ old

abbrev pub IsTickWritten : (old new : ℕ) → Option ℕ → Type 0
IsTickWritten old new (Some tick) = new ≡ tick
IsTickWritten old new None = new ≡ old

-- a value of what is read, which changes nothing
abbrev pub IsRead : {S A : Type 0} → (shown : S → A) → (written : A) → (before after : S) → Unit {0} → Type 0
IsRead shown written before after answer = (after ≡ before) × (written ≡ shown before)
