use Rattle.std.proofs.Common.{◌≡◌, refl, sym, ap, ◌∙◌}
use Rattle.station_core.specs.Refusals.{firing_refusal}
use Rattle.segment_law.specs.Calls.{fires}
use Rattle.segment_state.specs.Answers.{first_refusal}
use Rattle.segment_state.proofs.Refusals.{fires_by, refused_for}
use Rattle.segment_state.proofs.Kept.{at_here}
use Rattle.segment_state.proofs.Calling.{within_here, no_station}
use Rattle.segment_state.proofs.state.SegmentState.fire_refusal.Goals as goal

pub returns-in_default : goal.returns-in_default
returns-in_default c = no_station c.args.self.now c.args.station (fires c.args.self.now) (sym c.place_of.ensures.value ∙ c.in_default.is)

pub index-requires : goal.index-requires
index-requires c = within_here c.self.inside c.args.self.now c.in-Some.place c.self.view_is c.in-Some.ensures.within

pub returns : goal.returns
returns c =
    let now_is : c.now.result ≡ c.args.self.now.now = c.now.ensures.value ∙ ap (λ x. x.now) c.self.view_is in
    c.refusal_by.ensures ∙ ap first_refusal (c.fire_refusal.ensures ∙ ap (firing_refusal c.index.result.now) now_is)
    ∙ refused_for _ _ _ (at_here c.self.inside _ _ c.in-Some.place c.index.result.now _ c.self.view_is c.in-Some.ensures.value c.in-Some.ensures.within c.index.ensures
    ∙ fires_by c.args.self.now c.in-Some.place c.index.result.now) refl
