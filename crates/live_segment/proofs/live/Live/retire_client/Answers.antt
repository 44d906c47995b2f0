use Rattle.std.proofs.Common.{◌<◌, get_or, map, length, List, refl, sym, ap, ◌∙◌, arith}
use Rattle.segment_rings.specs.Views.{SeatView, closed_seat, new_seat}
use Rattle.live_segment.specs.LiveView.{client_of}
use Rattle.live_segment.proofs.Holding.{holds-close_seat}
use Rattle.live_segment.proofs.Keeping.{cut_with, notes_kept-set}
use Rattle.live_segment.proofs.Telling.{client_gone, none_gone}
use Rattle.live_segment.proofs.Viewed.{holds_at}
use Rattle.live_segment.proofs.live.Live.retire_client.Goals as goal

abbrev nobody : SeatView
nobody = new_seat 0 (record { 0 = 0 }) 0 0

pub invariant_of-self : goal.invariant_of-self
invariant_of-self c =
    let i = c.self.inside in
    let k = c.args.client in
    let ss = i.seats.items in
    let s = nobody in
    holds_at _ _ _ _ _ _ _ _ _ _ _ _ _ _ _ refl refl refl refl refl (c.close.ensures s) refl (holds-close_seat i.addresses.items i.segment i.calls.items i.owed.items ss i.doors.items k s c.self.invariant.0) (cut_with _ _ _ _ _ _ _ (notes_kept-set k ss s (closed_seat (get_or ss k s)) refl) (λ k0. k0) c.self.invariant.1)

pub returns-then-client-len-clause-clients : goal.returns-then-client-len-clause-clients
returns-then-client-len-clause-clients c =
    let k = c.args.client in
    let ss = c.self.inside.seats.items in
    let s = nobody in
    let l : k < length ss = omega (arith, c.len.ensures, c.if-client-len.true) in
    rw (← c.self.view_is) (ap (λ (u : List SeatView). map client_of u) (c.close.ensures s) ∙ client_gone k ss s l)

pub returns-else-client-len-clause-clients : goal.returns-else-client-len-clause-clients
returns-else-client-len-clause-clients c =
    let k = c.args.client in
    let ss = c.self.inside.seats.items in
    rw (← c.self.view_is) (sym (none_gone k ss (λ (l : k < length ss). omega (arith, l, c.len.ensures, c.if-client-len.false))))
