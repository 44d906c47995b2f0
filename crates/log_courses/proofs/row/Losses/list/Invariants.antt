use Rattle.std.proofs.Common.{◌≡◌, take, flat_map}
use Rattle.log_courses.specs.Rows.{lost_for}
use Rattle.log_courses.proofs.row.Losses.list.Given as goal

abbrev pub invariant-loop-cause : goal.invariant-loop-cause
invariant-loop-cause l = l.found.items ≡ flat_map (lost_for l.self) (take l.cause-index l.causes)
