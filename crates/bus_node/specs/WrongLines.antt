-- Wrong lines.
use Rattle.std.specs.Prelude.{ℕ, List, if◌then◌else◌, Result, Ok, Err}
use Rattle.line_faults.specs.Ending.{fault_line}
use Rattle.line_faults.specs.declared.ending.Cause.TheVariants as causes
use Rattle.line_faults.specs.declared.fault.Fault.{Fault}
use Rattle.script_text.specs.Parts.{line}
use Rattle.bus_node.specs.LineCounts.{with_wrong}
use Rattle.bus_node.specs.Node.{Node, told}

-- a wrong line is reported by its number and its first fault
abbrev pub wrong_line : ℕ → Fault → List ℕ
wrong_line number fault = line (fault_line (record { line = number; cause = causes.Fault fault }))

-- a wrong line is counted and passed over
abbrev pub wrong_told : Node → Fault → Node
wrong_told n fault = told (record n { counts = with_wrong n.counts }) (wrong_line n.counts.lines fault)

-- unless it ends the run
abbrev pub wrong_seen : Node → Fault → Result Node Fault
wrong_seen n fault = if n.strict then Err fault else Ok (wrong_told n fault)
