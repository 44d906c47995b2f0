use Rattle.std.proofs.Common.{ℕ, List, Some, map, Option, sym, subst, arith, deque_capacity}
use Rattle.segment_rings.specs.Views.{SeatView, has_noted_news}
use Rattle.live_ends.specs.Homes.{AreQuiet}
use Rattle.live_ends.specs.Waiting.{Marks}
use Rattle.live_ends.proofs.Quiet.{quiet-notes}
use Rattle.live_ends.proofs.Waiting.{waits_same, waits_told, waits_room}
use Rattle.live_ends.proofs.seating.Seats.settle_event.Goals as goal

pub invariant_of-self : goal.invariant_of-self
invariant_of-self c =
    let i = c.self.inside in
    let ss = i.seats.items in
    let ts = c.settle_event.new.seats.items in
    let m : Marks (Some c.in-Some.k) (map has_noted_news ss) (map has_noted_news ts) = subst (λ (o : Option ℕ). Marks o (map has_noted_news ss) (map has_noted_news ts)) c.in-Some.is c.settle_event.ensures.news in (
      subst (λ (us : List SeatView). AreQuiet i.homes.items us) (sym c.settle_event.ensures.seats) (quiet-notes i.homes.items _ ss c.self.invariant.0),
      rw (c.push_back_reserved.ensures.items, c.push_back_reserved.ensures.capacity) (waits_told has_noted_news ss ts c.in-Some.k i.news.items (deque_capacity i.news) m c.self.invariant.1),
    )

pub push_back_reserved-requires : goal.push_back_reserved-requires
push_back_reserved-requires c =
    let i = c.self.inside in
    let ss = i.seats.items in
    let ns = map has_noted_news c.settle_event.new.seats.items in
    let m = subst (λ (o : Option ℕ). Marks o (map has_noted_news ss) ns) c.in-Some.is c.settle_event.ensures.news in
    omega (arith, waits_room has_noted_news ss ns c.in-Some.k i.news.items (deque_capacity i.news) m c.self.invariant.1)

pub invariant_of-self-in_default : goal.invariant_of-self-in_default
invariant_of-self-in_default c =
    let i = c.self.inside in
    let ss = i.seats.items in
    let ts = c.settle_event.new.seats.items in
    let m = subst (λ (o : Option ℕ). Marks o (map has_noted_news ss) (map has_noted_news ts)) c.in_default.is c.settle_event.ensures.news in (
      subst (λ (us : List SeatView). AreQuiet i.homes.items us) (sym c.settle_event.ensures.seats) (quiet-notes i.homes.items _ ss c.self.invariant.0),
      waits_same has_noted_news ss ts i.news.items (deque_capacity i.news) m c.self.invariant.1,
    )
