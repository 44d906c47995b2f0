use Rattle.std.proofs.Common.{◌≡◌, drop}
use Rattle.log_courses.specs.Courses.{is_refused}
use Rattle.log_courses.proofs.courses.is_refused.Given as goal

abbrev pub invariant-loop-one : goal.invariant-loop-one
invariant-loop-one l = is_refused (drop l.one-index l.told) ≡ is_refused l.told
