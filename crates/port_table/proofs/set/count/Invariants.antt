use Rattle.std.proofs.Common.{◌≡◌, ◌<◌, ℕ, false, ◌==◌, get_or}
use Rattle.port_table.proofs.set.count.Given as goal

-- the numbers so far aren't 0
abbrev pub invariant-loop-place : goal.invariant-loop-place
invariant-loop-place l = (k : ℕ) → k < l.place → (get_or l.kept k 0 == 0) ≡ false
