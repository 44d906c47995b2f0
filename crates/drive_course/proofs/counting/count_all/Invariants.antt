use Rattle.std.proofs.Common.{◌≡◌, take}
use Rattle.segment_law.specs.Segment.{counted}
use Rattle.drive_course.proofs.counting.count_all.Given as goal

abbrev pub invariant-loop-event : goal.invariant-loop-event
invariant-loop-event l = l.counts ≡ counted l.fn.counts (take l.event-index l.events)
