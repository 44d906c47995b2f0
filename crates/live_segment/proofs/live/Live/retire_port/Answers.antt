use Rattle.std.proofs.Common.{get_or, map, refl, sym, ap, ◌∙◌, subst, List}
use Rattle.segment_rings.specs.Views.{DoorView, closed_door, new_door}
use Rattle.live_segment.specs.Facts.{Holds, IsCut}
use Rattle.live_ends.specs.Ends.{NoneAt}
use Rattle.live_ends.specs.Places.{IsPlaceIn}
use Rattle.live_segment.specs.LiveView.{port_of}
use Rattle.live_segment.proofs.Holding.{holds-close_door}
use Rattle.live_segment.proofs.Keeping.{cut_with, given_kept-set}
use Rattle.live_segment.proofs.Telling.{ports_closed, ports_unclosed}
use Rattle.live_segment.proofs.live.Live.retire_port.Goals as goal

pub invariant_of-self : goal.invariant_of-self
invariant_of-self c =
    let i = c.self.inside in
    let k = c.in-Some.k in
    let ds = i.doors.items in
    let d = new_door c.args.port 0 0 0 in
    let e = c.close.ensures d in
    let h = holds-close_door i.addresses.items i.segment i.calls.items i.owed.items i.seats.items ds k d c.self.invariant.0 in
    let cut = cut_with _ _ _ _ _ _ _ (λ k0. k0) (given_kept-set k ds d (closed_door (get_or ds k d)) refl) c.self.invariant.1 in
    (subst (Holds i.addresses.items i.segment i.calls.items i.owed.items i.seats.items) (sym e) h, subst (IsCut i.addresses.items i.calls.pieces i.image i.seats.items) (sym e) cut)

pub returns-in-Some-clause-ports : goal.returns-in-Some-clause-ports
returns-in-Some-clause-ports c =
    let k = c.in-Some.k in
    let ds = c.self.inside.doors.items in
    let d = new_door c.args.port 0 0 0 in
    let here : IsPlaceIn ds c.args.port k = subst (λ (xs : List DoorView). IsPlaceIn xs c.args.port k) c.as_slice.ensures.value c.in-Some.ensures in
    rw (← c.self.view_is) (ap (map port_of) (c.close.ensures d) ∙ ports_closed c.args.port k ds d here.0 (here.1 d) c.self.invariant.0.apart)

pub returns-in_default-clause-ports : goal.returns-in_default-clause-ports
returns-in_default-clause-ports c =
    let none : NoneAt c.args.port c.self.inside.doors.items = subst (NoneAt c.args.port) c.as_slice.ensures.value c.in_default.ensures in
    rw (← c.self.view_is) (sym (ports_unclosed c.args.port c.self.inside.doors.items none))
