use Rattle.std.proofs.Common.{◌+◌, ◌≤◌, ◌<◌, List, length, sym, subst, arith, deque_capacity}
use Rattle.segment_rings.specs.Views.{DoorView, has_pushed_news}
use Rattle.live_ends.specs.Waiting.{Waits, DoorsView}
use Rattle.live_ends.proofs.Waiting.{waits_push}
use Rattle.live_ends.proofs.all_doors.Doors.push_reserved.Goals as goal

pub invariant_of-self : goal.invariant_of-self
invariant_of-self c =
    let i = c.self.inside in
    let ds = i.doors.items in
    let room = deque_capacity i.news in
    let l : length ds + 1 ≤ room = omega (arith, subst (λ (v : DoorsView). 0 < v.spare) (sym c.self.view_is) c.requires.spare, i.doors.ok.0) in
    subst (λ (es : List DoorView). Waits has_pushed_news es i.news.items room) (sym c.push_reserved.ensures.items) (waits_push has_pushed_news ds c.args.door i.news.items room c.requires.none l c.self.invariant)
