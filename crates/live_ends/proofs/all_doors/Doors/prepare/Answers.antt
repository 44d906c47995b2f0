use Rattle.std.proofs.Common.{deque_capacity}
use Rattle.segment_rings.specs.Views.{has_pushed_news}
use Rattle.live_ends.proofs.Marks.{door_marks-same}
use Rattle.live_ends.proofs.Waiting.{waits_same}
use Rattle.live_ends.proofs.all_doors.Doors.prepare.Goals as goal

pub invariant_of-self : goal.invariant_of-self
invariant_of-self c =
    let i = c.self.inside in
    let es = c.prepare.new.doors.items in
    waits_same has_pushed_news i.doors.items es i.news.items (deque_capacity i.news) (door_marks-same i.doors.items es c.prepare.ensures.same) c.self.invariant
