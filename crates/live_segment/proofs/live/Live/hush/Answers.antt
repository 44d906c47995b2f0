use Rattle.std.proofs.Common.{◌∙◌, refl, ap}
use Rattle.live_ends.specs.Homes.{SeatsView}
use Rattle.live_segment.specs.LiveView.{live_view, keep}
use Rattle.live_segment.proofs.Viewed.{holds_at}
use Rattle.live_segment.proofs.live.Live.hush.Goals as goal

pub invariant_of-self : goal.invariant_of-self
invariant_of-self c = holds_at _ _ _ _ _ _ _ _ _ _ _ _ _ _ _ refl refl refl refl refl (ap (λ (u : SeatsView). u.items) c.hush.ensures) refl c.self.invariant.0 c.self.invariant.1

pub returns : goal.returns
returns c =
    let i = c.self.inside in
    ap (λ (u : SeatsView). live_view (keep i.stopped i.calls.pieces) i.addresses.items i.calls.items u.items i.doors.items) c.hush.ensures ∙ c.self.view_is
