use Rattle.std.proofs.Common.{◌≡◌, ◌<◌, []}
use Rattle.std.specs.Vec.{vec_len, vec_capacity}
use Rattle.drive_course.specs.Taken.{FirstTell}
use Rattle.drive_course.proofs.seen.Seen.taken_by_first.Given as goal

abbrev pub invariant-loop-place : goal.invariant-loop-place
invariant-loop-place l = FirstTell l.place l.self l.now l.fn.stations l.stations l.fn.course l.course l.fn.counts l.counts × (l.told ≡ []) × (vec_len l.course.parts < vec_capacity l.course.parts)
