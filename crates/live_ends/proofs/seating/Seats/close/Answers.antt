use Rattle.std.proofs.Common.{inl, ap, ◌∙◌, deque_capacity}
use Rattle.segment_rings.specs.Views.{SeatView, has_noted_news}
use Rattle.live_ends.proofs.Quiet.{quiet-set}
use Rattle.live_ends.proofs.Waiting.{waits_set}
use Rattle.live_ends.proofs.seating.Seats.close.Goals as goal

pub invariant_of-self : goal.invariant_of-self
invariant_of-self c =
    let i = c.self.inside in
    let s = c.index_mut-seat.result.now in (
      quiet-set i.homes.items c.args.k i.seats.items c.close.new.self (λ _. inl (ap (λ (u : SeatView). u.active) c.close.ensures)) c.self.invariant.0,
      waits_set has_noted_news i.seats.items c.args.k s c.close.new.self i.news.items (deque_capacity i.news) (ap has_noted_news c.close.ensures ∙ ap has_noted_news c.index_mut-seat.ensures.value) c.self.invariant.1,
    )
