use Rattle.std.proofs.Common.{deque_capacity}
use Rattle.segment_rings.specs.Views.{has_noted_news}
use Rattle.live_ends.proofs.Marks.{marks-cut}
use Rattle.live_ends.proofs.Quiet.{quiet-cut}
use Rattle.live_ends.proofs.Waiting.{waits_same}
use Rattle.live_ends.proofs.seating.Seats.cut_seats.Goals as goal

pub invariant_of-self : goal.invariant_of-self
invariant_of-self c =
    let i = c.self.inside in
    let ts = c.cut_seats.new.seats.items in (
      quiet-cut i.homes.items i.seats.items ts c.cut_seats.ensures c.self.invariant.0,
      waits_same has_noted_news i.seats.items ts i.news.items (deque_capacity i.news) (marks-cut i.seats.items ts c.cut_seats.ensures) c.self.invariant.1,
    )
