-- What a run leaves.
use Rattle.std.proofs.Common.{◌≡◌, ℕ, List, Option, Some, None, ◌∙◌, ap, IfSome}
use Rattle.line_runs.specs.Ending as lines
use Rattle.line_runs.specs.declared.running.Ran.{Ran as LinesRan}
use Rattle.bus_node.specs.Node.{Node}
use Rattle.bus_node.specs.Outcome.{left}
use Rattle.bus_node.specs.Ending.{Left}
use Rattle.bus_node.specs.declared.line_counts.LineCounts.{LineCounts}

-- what was counted is what the node counted that is left
pub counted : (known : Option (List ℕ)) (first node : Node) (ran : LinesRan) (counts : LineCounts) → counts ≡ node.counts → IfSome known (λ input. lines.Left ran node (left first input))
    → IfSome known (λ input. Left record { fault = ran.fault; memory_refused = ran.memory_refused; counts = counts } node (left first input))
counted None first node ran counts is h = tt
counted (Some input) first node ran counts is h = λ r e. (h r e, is ∙ ap (λ (n : Node). n.counts) (h r e))
