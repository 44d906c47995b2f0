use Rattle.std.proofs.Common.{◌≡◌}
use Rattle.log_courses.specs.Rows.{aborts_below}
use Rattle.log_courses.proofs.summary.Summary.aborts_below.Given as goal

abbrev pub invariant-loop-at : goal.invariant-loop-at
invariant-loop-at l = l.found.items ≡ aborts_below l.row l.self.aborts l.at
