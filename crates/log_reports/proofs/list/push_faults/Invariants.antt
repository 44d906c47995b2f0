use Rattle.std.proofs.Common.{◌≡◌, ◌++◌, length}
use Rattle.log_reports.specs.List.{faults_lines}
use Rattle.log_reports.proofs.list.push_faults.Given as goal

abbrev pub invariant-loop-first : goal.invariant-loop-first
invariant-loop-first l = l.lines.items ++ faults_lines l.rest ≡ l.fn.lines.items ++ faults_lines l.list

abbrev pub decreases-loop-first : goal.decreases-loop-first
decreases-loop-first l = length l.rest
