use Rattle.std.proofs.Common.{◌≡◌, drop}
use Rattle.log_courses.specs.Awaited.{awaiting_each}
use Rattle.log_courses.proofs.awaited.Awaited.add_each.Given as goal

abbrev pub invariant-loop-one : goal.invariant-loop-one
invariant-loop-one l = awaiting_each (drop l.one-index l.told) l.self ≡ awaiting_each l.told l.fn.self
