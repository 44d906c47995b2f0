use Rattle.std.proofs.Common.{◌≡◌, ◌<◌, List, length, map, get_or, refl, sym, ap, ◌∙◌, subst}
use Rattle.std.proofs.lemmas.List.{get_or-map}
use Rattle.segment_rings.specs.declared.words.Delivery.{Delivery}
use Rattle.segment_rings.specs.Ends.{InboxEnd, closes}
use Rattle.segment_rings.specs.Views.{new_door, closed_door}
use Rattle.live_segment.specs.Facts.{Holds, IsCut}
use Rattle.live_segment.specs.LiveView.{LiveView, PortView, port_of, keep}
use Rattle.live_segment.specs.Reports.{CloseMade, closing}
use Rattle.live_segment.proofs.Closings.{closed_for}
use Rattle.live_segment.proofs.Keeping.{cut_with, given_kept-set}
use Rattle.live_segment.proofs.Telling.{ports_closed}
use Rattle.live_segment.proofs.Holding.{holds-close_door}
use Rattle.live_segment.proofs.Viewed.{door_within}
use Rattle.live_segment.proofs.live.Live.shut.Goals as goal

pub invariant_of-self : goal.invariant_of-self
invariant_of-self c =
    let i = c.self-2.inside in
    let k = c.args.k in
    let ds = i.doors.items in
    let d = new_door c.args.inbox.now.port 0 0 0 in
    let h : Holds i.addresses.items i.segment i.calls.items i.owed.items i.seats.items c.hand_over.new.doors.items = subst (Holds i.addresses.items i.segment i.calls.items i.owed.items i.seats.items) (sym (c.hand_over.ensures.doors d)) (holds-close_door i.addresses.items i.segment i.calls.items i.owed.items i.seats.items ds k d c.self-2.invariant.0) in
    let cut : IsCut i.addresses.items i.calls.pieces i.image i.seats.items c.hand_over.new.doors.items = subst (IsCut i.addresses.items i.calls.pieces i.image i.seats.items) (sym (c.hand_over.ensures.doors d))
    (cut_with _ _ _ _ _ _ _ (λ k0. k0) (given_kept-set k ds d (closed_door (get_or ds k d)) refl) c.self-2.invariant.1) in
    (h, cut)

pub returns-clause-closed : goal.returns-clause-closed
returns-clause-closed c =
    let k = c.args.k in
    let ds = c.self-2.inside.doors.items in
    let seen : k < length c.make_close.new.self.ports = subst (λ (ps : List PortView). k < length ps) (sym c.in_ok-make_close.ensures.made.ports) c.requires.within in
    let within : k < length ds = door_within k ds (subst (λ (u : LiveView). k < length u.ports) (sym c.self-2.view_is) seen) in
    let a = c.args.self.now in
    let i = c.args.inbox.now in
    let p = c.in_ok-port.field-0.port in
    let own : p ≡ i.port = c.in_ok-port.ensures.port in
    let rest = c.in_ok-port.field-0.rest.items in
    let j = c.hand_over.new.inbox in
    let same : c.in_ok-kept.kept.items ≡ rest = c.in_ok-kept.ensures ∙ c.as_slice.ensures.value in
    let inbox : j ≡ closes i rest j.spare = c.hand_over.ensures.inbox ∙ ap (λ (x : InboxEnd). closes x c.in_ok-kept.kept.items j.spare) c.in_ok-reserve.ensures.same ∙ ap (λ (u : List Delivery). closes i u j.spare) same in
    let made : CloseMade a c.make_close.new.self p = c.in_ok-make_close.ensures.made in
    let d = new_door p 0 0 0 in
    let port_at : (get_or c.make_close.new.self.ports k (port_of d)).port ≡ p = ap (λ (ps : List PortView). (get_or ps k (port_of d)).port) c.in_ok-make_close.ensures.made.ports ∙ c.requires.port (port_of d) ∙ sym own in
    let at : (get_or ds k d).port ≡ p = sym (ap (λ (x : PortView). x.port) (get_or-map port_of ds k d (port_of d) within)) ∙ ap (λ (u : LiveView). (get_or u.ports k (port_of d)).port) c.self-2.view_is ∙ port_at in
    let shown : map port_of c.hand_over.new.doors.items ≡ map (closing p) (map port_of ds) = ap (map port_of) (c.hand_over.ensures.doors d) ∙ ports_closed p k ds d within at c.self-2.invariant.0.apart in
    closed_for a c.make_close.new.self (keep c.self-2.inside.stopped c.self-2.inside.calls.pieces) c.self-2.inside.addresses.items c.self-2.inside.calls.items c.self-2.inside.seats.items ds c.hand_over.new.doors.items i j p _ made c.self-2.view_is c.requires.few (k, c.requires.within, c.requires.port) own refl c.in_ok-port.ensures.rest inbox shown
