-- The text of a node's input, line by line, up to its fault.
use Rattle.std.specs.Prelude.{ℕ, ◌-◌, ◌^◌, List, [], Result, Ok, Err}
use Rattle.line_faults.specs.declared.fault.Fault.{Fault}
use Rattle.line_runs.specs.Outcome as lines
use Rattle.line_runs.specs.declared.limits.Limits.{Limits}
use Rattle.bus_node.specs.LineCounts.{no_lines}
use Rattle.bus_node.specs.Node.{Node}
use Rattle.bus_node.specs.Acting.{obey_line}

abbrev pub node_limits : Limits
node_limits = record { lines = 2 ^ 64 - 2; bytes = 234881100 }

-- the output of a line is the text that it leaves in the node
abbrev pub with_text : Result Node Fault → Result (Node × List ℕ) Fault
with_text (Ok t) = Ok (t, t.text)
with_text (Err f) = Err f

abbrev pub told_by : lines.Steps Node
told_by n line = with_text (obey_line n line)

-- the log of a line is empty
abbrev pub without_text : Result Node Fault → Result (Node × List ℕ) Fault
without_text (Ok t) = Ok (t, [])
without_text (Err f) = Err f

abbrev pub logged_by : lines.Steps Node
logged_by n line = without_text (obey_line n line)

-- no line was read
abbrev pub at_first : Node → Node
at_first n = record n { counts = no_lines }

abbrev pub outcome : Node → List ℕ → lines.Outcome
outcome n input = lines.outcome node_limits told_by (at_first n) input

-- the node that the lines of an input leave
abbrev pub left : Node → List ℕ → Node
left n input = lines.left node_limits told_by (at_first n) input
