use Rattle.std.proofs.Common.{List, sym, ap, ◌∙◌, subst}
use Rattle.segment_rings.specs.Views.{DoorView}
use Rattle.live_ends.specs.Ends.{NoneAt}
use Rattle.live_ends.specs.Places.{IsPlaceIn}
use Rattle.live_segment.proofs.Laws.{has_port, no_port, given_gone_at}
use Rattle.live_segment.proofs.live.Live.given_gone.Goals as goal

pub returns-in-Some : goal.returns-in-Some
returns-in-Some c =
    let k = c.in-Some.k in
    let q = c.args.port in
    let ds = c.self.inside.doors.items in
    let p = subst (λ (u : List DoorView). IsPlaceIn u q k) c.as_slice.ensures.value c.in-Some.ensures in
    let d = c.get.result.now in
    let gone = given_gone_at k q ds d p.0 (p.1 d) c.self.invariant.0.apart in
    rw (← c.self.view_is) (has_port ds k q p.0 p.1, c.gone.ensures.value ∙ ap (λ (x : DoorView). x.gone) (c.get.ensures d) ∙ sym gone)

pub returns-in-None : goal.returns-in-None
returns-in-None c =
    let n = subst (λ (u : List DoorView). NoneAt c.args.port u) c.as_slice.ensures.value c.in-None.ensures in
    rw (← c.self.view_is) (no_port c.self.inside.doors.items c.args.port n)
