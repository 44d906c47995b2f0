use Rattle.std.proofs.Common.{◌+◌, ◌≤◌, ◌<◌, List, length, sym, subst, arith, deque_capacity}
use Rattle.segment_rings.specs.Views.{SeatView, has_noted_news}
use Rattle.live_ends.specs.Homes.{SeatsView, AreQuiet}
use Rattle.live_ends.proofs.Quiet.{quiet-push}
use Rattle.live_ends.specs.Waiting.{Waits}
use Rattle.live_ends.proofs.Waiting.{waits_push}
use Rattle.live_ends.proofs.seating.Seats.push_reserved.Goals as goal

pub invariant_of-self : goal.invariant_of-self
invariant_of-self c =
    let i = c.self.inside in
    let ss = i.seats.items in
    let room = deque_capacity i.news in
    let l : length ss + 1 ≤ room = omega (arith, subst (λ (v : SeatsView). 0 < v.spare) (sym c.self.view_is) c.requires.spare, i.seats.ok.0) in
    let q = quiet-push i.homes.items ss c.args.seat c.requires.silent c.self.invariant.0 in
    let w = waits_push has_noted_news ss c.args.seat i.news.items room c.requires.none l c.self.invariant.1 in
    subst (λ (ts : List SeatView). AreQuiet i.homes.items ts × Waits has_noted_news ts i.news.items room) (sym c.push_reserved.ensures.items) (q, w)
