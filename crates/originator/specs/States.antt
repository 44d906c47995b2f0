-- What each state of a sender knows (SAE J1939-21, connection mode data transfer; ISO 11783-3).
use Rattle.std.specs.Prelude.{ℕ, Bool}
use Rattle.tick_timers.specs.Timers.{Timer}
use Rattle.originator.specs.Link.{Link}

-- how often a CTS may name a packet again that was queued before: the next such CTS ends the message
abbrev pub most_resends : ℕ
most_resends = 2

-- no window, and packets that were never queued: the first of them, and how many CTS have named one below it
pub record AwaitCts : Type 0 where
  pub link : Link
  pub unsent : ℕ
  pub resends : ℕ
  pub timer : Timer

-- a window is still to be queued, from packet `at` to packet `until`; `granted` and `next` are those of the CTS that
-- opened it, and `announced` says that its data packet offset (DPO) is queued
pub record Sending : Type 0 where
  pub link : Link
  pub unsent : ℕ
  pub resends : ℕ
  pub granted : ℕ
  pub next : ℕ
  pub at : ℕ
  pub until : ℕ
  pub announced : Bool

-- no window, and each packet was queued
pub record AwaitEnd : Type 0 where
  pub link : Link
  pub resends : ℕ
  pub timer : Timer
