use Rattle.std.proofs.Common.{ℕ, List, drop, get_or, sym, ap, ◌∙◌, subst}
use Rattle.port_table.specs.declared.port.PortId.{PortId}
use Rattle.segment_rings.specs.declared.words.Delivery.{Delivery}
use Rattle.segment_rings.specs.Views.{DoorView}
use Rattle.live_record.specs.Record.{given, trail}
use Rattle.live_ends.specs.Ends.{NoneAt}
use Rattle.live_ends.specs.Places.{IsPlaceIn}
use Rattle.live_segment.proofs.Laws.{pushed_at, has_port, no_port, given_gone_at}
use Rattle.live_segment.proofs.live.Live.given_to.Goals as goal

pub returns-in-Some : goal.returns-in-Some
returns-in-Some c =
    let k = c.in-Some.k in
    let q = c.args.port in
    let ds = c.self.inside.doors.items in
    let es = (trail c.self.inside.addresses.items c.self.inside.calls.items).events in
    let p = subst (λ (u : List DoorView). IsPlaceIn u q k) c.as_slice.ensures.value c.in-Some.ensures in
    let d = c.get.result.now in
    let gone = given_gone_at k q ds d p.0 (p.1 d) c.self.invariant.0.apart in
    let all = ap (λ (x : DoorView). drop x.gone x.pushed) (c.get.ensures d) in
    let is = pushed_at k es ds d p.0 c.self.invariant.0.gives ∙ ap (λ (x : PortId). given x es) (p.1 d) in
    let e = c.deliveries.ensures ∙ all ∙ ap (λ (xs : List Delivery). drop (get_or ds k d).gone xs) is ∙ ap (λ (n : ℕ). drop n (given q es)) (sym gone) in
    rw (← c.self.view_is) (has_port ds k q p.0 p.1, e)

pub returns-in-None : goal.returns-in-None
returns-in-None c =
    let n = subst (λ (u : List DoorView). NoneAt c.args.port u) c.as_slice.ensures.value c.in-None.ensures in
    rw (← c.self.view_is) (no_port c.self.inside.doors.items c.args.port n)
