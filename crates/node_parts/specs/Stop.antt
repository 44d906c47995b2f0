-- Where a clock stops next.
use Rattle.std.specs.Prelude.{ℕ, nat_lt, if◌then◌else◌, Option, Some, None}
use Rattle.node_parts.specs.declared.stop.Stop.{Stop}
use Rattle.node_parts.specs.declared.stop.Stop.TheVariants.{Timer, Last, Here}

-- where a clock stops next on its way to the last tick: at that of the first timer that is due up to there, so that each fires at its own; if
-- there is none, at the last
abbrev pub next_stop : (now : ℕ) → (due : Option ℕ) → (last : ℕ) → Stop
next_stop now (Some tick) last = Timer tick
next_stop now None last = if nat_lt now last then Last else Here
