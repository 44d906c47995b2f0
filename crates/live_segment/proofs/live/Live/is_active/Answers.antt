use Rattle.std.proofs.Common.{◌∙◌, refl, ap}
use Rattle.segment_law.specs.Segment.{Segment}
use Rattle.segment_state.specs.Next.{is_active}
use Rattle.live_segment.specs.LiveView.{LiveView}
use Rattle.live_segment.specs.Turns.{state_of}
use Rattle.live_segment.proofs.Viewed.{holds_at}
use Rattle.live_segment.proofs.live.Live.is_active.Goals as goal

pub invariant_of-self : goal.invariant_of-self
invariant_of-self c = holds_at _ _ _ _ _ _ _ _ _ _ _ _ _ _ _ c.is_active.ensures.same refl refl refl refl refl refl c.self.invariant.0 c.self.invariant.1

pub returns-clause-same : goal.returns-clause-same
returns-clause-same c = c.self.view_is

pub returns-clause-value : goal.returns-clause-value
returns-clause-value c =
    c.is_active.ensures.value
    ∙ ap (λ (s : Segment). is_active s c.args.station) c.self.invariant.0.at
    ∙ ap (λ (u : LiveView). is_active (state_of u) c.args.station) c.self.view_is
