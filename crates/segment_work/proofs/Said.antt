-- The work of a frame that is written, station by station.
use Rattle.std.proofs.Common.{◌≡◌, ℕ, ◌+◌, if◌then◌else◌, length, refl}
use Rattle.work_law.specs.Work.{Terms, sum_below, own_at, hears, said_work}

-- at the station at a place
abbrev pub told_at : Terms → (work from to : ℕ) → ℕ → ℕ
told_at c work from to i = c.rates.take + (if hears (own_at c i) from to then work else 0)

pub said_is : (c : Terms) (work from to n : ℕ) → n ≡ length c.on → said_work c work from to ≡ c.rates.put + sum_below (told_at c work from to) n
unfolding said_work
said_is c work from to n e = rw e refl
