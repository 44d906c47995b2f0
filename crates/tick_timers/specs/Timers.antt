-- A timer of the transport protocol (SAE J1939-21), in ticks of 1 ms.
use Rattle.std.specs.Prelude.{ℕ, ◌+◌, ◌-◌, Bool, nat_le}

-- the tick at which it was started, and how many ticks have to pass
pub record Timer : Type 0 where
  pub started : ℕ
  pub ticks : ℕ

-- at least its ticks have passed since its start
abbrev pub is_due : Timer → ℕ → Bool
is_due timer now = nat_le (timer.started + timer.ticks) now

-- how many of its ticks are still to pass
abbrev pub missing : Timer → ℕ → ℕ
missing timer now = timer.ticks - (now - timer.started)
