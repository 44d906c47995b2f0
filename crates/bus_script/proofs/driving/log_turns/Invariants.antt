use Rattle.bus_script.proofs.Logs.{Goes}
use Rattle.bus_script.proofs.driving.log_turns.Given as goal

abbrev pub invariant-loop-left : goal.invariant-loop-left
invariant-loop-left l = Goes l.from l.to l.turns l.left l.made l.fn.segment l.segment l.fn.page l.page

abbrev pub decreases-loop-left : goal.decreases-loop-left
decreases-loop-left l = l.left
