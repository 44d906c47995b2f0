-- From which tick on something is due.
use Rattle.std.specs.Prelude.{◌≡◌, ℕ, ◌^◌, ◌<◌, ◌≤◌, Bool, true, false, nat_le, if◌then◌else◌, Option, Some, None}

-- there is such a tick, and it has passed
abbrev pub has_come : Option ℕ → (now : ℕ) → Bool
has_come None now = false
has_come (Some tick) now = nat_le tick now

-- at each tick of a clock, it is due exactly if this tick has passed: so this is the first tick at which it is due, and none
-- means that it never is
abbrev pub IsDueFrom : (ℕ → Bool) → Option ℕ → Type 0
IsDueFrom is_due tick = (now : ℕ) → now < 2 ^ 64 → is_due now ≡ has_come tick now

-- the earlier of two ticks, if there are two
abbrev pub earlier_of : Option ℕ → Option ℕ → Option ℕ
earlier_of None other = other
earlier_of (Some tick) None = Some tick
earlier_of (Some tick) (Some other) = if nat_le tick other then Some tick else Some other

-- from one tick on, this is the first at which something is done
pub record IsFirstFrom (acts : ℕ → Bool) (now tick : ℕ) : Type 0 where
  pub from_now : now ≤ tick
  pub is_then : acts tick ≡ true
  pub not_before : (before : ℕ) → now ≤ before → before < tick → acts before ≡ false

-- the first such tick from now on; none if there is none up to a clock's last tick
abbrev pub IsNextFrom : (acts : ℕ → Bool) → (now : ℕ) → Option ℕ → Type 0
IsNextFrom acts now None = (later : ℕ) → now ≤ later → later < 2 ^ 64 → acts later ≡ false
IsNextFrom acts now (Some tick) = IsFirstFrom acts now tick
