use Rattle.std.proofs.Common.{refl, sym, ap, ◌∙◌}
use Rattle.segment_law.specs.Calls.{pauses}
use Rattle.segment_state.specs.Answers.{first_refusal}
use Rattle.segment_state.proofs.Refusals.{pauses_by, refused_for}
use Rattle.segment_state.proofs.Kept.{at_here}
use Rattle.segment_state.proofs.Calling.{within_here, no_station}
use Rattle.segment_state.proofs.state.SegmentState.pause_refusal.Goals as goal

pub returns-in_default : goal.returns-in_default
returns-in_default c = no_station c.args.self.now c.args.port.station (pauses c.args.self.now c.args.port.number) (sym c.place_of.ensures.value ∙ c.in_default.is)

pub index-requires : goal.index-requires
index-requires c = within_here c.self.inside c.args.self.now c.in-Some.place c.self.view_is c.in-Some.ensures.within

pub returns : goal.returns
returns c =
    c.refusal_by.ensures ∙ ap first_refusal c.pause_refusal.ensures
    ∙ refused_for _ _ _ (at_here c.self.inside _ _ c.in-Some.place c.index.result.now _ c.self.view_is c.in-Some.ensures.value c.in-Some.ensures.within c.index.ensures
    ∙ pauses_by c.args.self.now c.in-Some.place c.index.result.now c.args.port.number) refl
