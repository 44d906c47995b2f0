use Rattle.std.proofs.Common.{◌∙◌, refl, ap, subst}
use Rattle.live_ends.specs.Homes.{SeatsView}
use Rattle.live_segment.specs.LiveView.{LiveView, live_view, keep}
use Rattle.live_segment.specs.Offers.{IsAtRest}
use Rattle.live_segment.proofs.Resting.{rests_at}
use Rattle.live_segment.proofs.Viewed.{holds_at}
use Rattle.live_segment.proofs.live.Live.is_called.Goals as goal

pub invariant_of-self : goal.invariant_of-self
invariant_of-self c = holds_at _ _ _ _ _ _ _ _ _ _ _ _ _ _ _ refl refl refl refl refl (ap (λ (u : SeatsView). u.items) c.is_called.ensures.same) refl c.self.invariant.0 c.self.invariant.1

pub returns-clause-same : goal.returns-clause-same
returns-clause-same c =
    let i = c.self.inside in
    ap (λ (u : SeatsView). live_view (keep i.stopped i.calls.pieces) i.addresses.items i.calls.items u.items i.doors.items) c.is_called.ensures.same ∙ c.self.view_is

pub returns-clause-rests : goal.returns-clause-rests
returns-clause-rests c = λ f.
    let i = c.self.inside in
    subst (λ (u : LiveView). IsAtRest c.args.station u) c.self.view_is (rests_at (keep i.stopped i.calls.pieces) i.addresses.items i.calls.items i.seats.items i.doors.items c.args.station (c.is_called.ensures.silent f))
