use Rattle.std.proofs.Common.{◌≡◌}
use Rattle.bus_node.specs.Time.{go_on, most_steps}
use Rattle.bus_node.proofs.node.Node.go_on.Given as goal

-- the steps that are left lead to where all lead
abbrev pub invariant-loop-left : goal.invariant-loop-left
invariant-loop-left l = go_on l.left l.target l.self ≡ go_on most_steps l.fn.target l.fn.self

abbrev pub decreases-loop-left : goal.decreases-loop-left
decreases-loop-left l = l.left
