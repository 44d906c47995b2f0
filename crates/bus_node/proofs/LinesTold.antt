-- A line that was obeyed tells the text that stands in the node, and nothing in a log.
use Rattle.std.proofs.Common.{[], Result, Ok, Err, ap}
use Rattle.line_faults.specs.declared.fault.Fault.{Fault}
use Rattle.line_faults.specs.declared.fault.LineError.{LineError}
use Rattle.line_faults.specs.declared.fault.LineError.TheVariants as errors
use Rattle.line_runs.specs.Outcome as lines
use Rattle.line_runs.specs.declared.running.Told.{Told}
use Rattle.line_runs.specs.declared.running.Told.TheVariants.{Answered, NoMemory}
use Rattle.bus_node.specs.Node.{Node}
use Rattle.bus_node.specs.Acting.{Obeyed}
use Rattle.bus_node.specs.Outcome.{with_text, without_text}

pub was_told : (r : Result Told LineError) (new : Node) (step : Result Node Fault) → Obeyed r new step → lines.Obeyed r new new.text (with_text step)
was_told (Ok Answered) new step o = ap with_text o
was_told (Ok NoMemory) new step o = tt
was_told (Err (errors.Fault f)) new step o = ap with_text o
was_told (Err errors.OutOfMemory) new step o = tt

pub was_logged : (r : Result Told LineError) (new : Node) (step : Result Node Fault) → Obeyed r new step → lines.Obeyed r new [] (without_text step)
was_logged (Ok Answered) new step o = ap without_text o
was_logged (Ok NoMemory) new step o = tt
was_logged (Err (errors.Fault f)) new step o = ap without_text o
was_logged (Err errors.OutOfMemory) new step o = tt
