-- How a run ended.
use Rattle.std.specs.Prelude.{◌≡◌, ℕ, List, false, Option, None}
use Rattle.line_runs.specs.Outcome.{Outcome}
use Rattle.line_runs.specs.Ending as lines
use Rattle.bus_node.specs.Node.{Node}
use Rattle.bus_node.specs.declared.running.Ran.{Ran}

-- what was written of an input, and the fault that ended it
abbrev pub Ended : Ran → Option (List ℕ) → Option (List ℕ) → Outcome → Type 0
Ended ran a b o = lines.Ended (record { fault = ran.fault; memory_refused = ran.memory_refused }) a b o

-- a run that reached the end of its input left this node, and counted all lines
abbrev pub Left : Ran → (node left : Node) → Type 0
Left ran node left = ran.memory_refused ≡ false → ran.fault ≡ None → (node ≡ left) × (ran.counts ≡ left.counts)
