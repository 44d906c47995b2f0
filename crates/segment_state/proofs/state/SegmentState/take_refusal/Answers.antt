use Rattle.std.proofs.Common.{Err, refl, sym, ap, ◌∙◌}
use Rattle.segment_law.specs.Calls.{takes_by, takes}
use Rattle.segment_law.specs.declared.refusal.Refusal.TheVariants.{NothingToTake}
use Rattle.segment_state.specs.Answers.{refusal_of, first_refusal}
use Rattle.segment_state.proofs.Refusals.{takes_are, refused_for}
use Rattle.segment_state.proofs.Kept.{at_here}
use Rattle.segment_state.proofs.Calling.{within_here, at_any, no_station}
use Rattle.segment_state.proofs.state.SegmentState.take_refusal.Goals as goal

pub returns-in_default : goal.returns-in_default
returns-in_default c = no_station c.args.self.now c.args.station (takes c.args.self.now c.args.room) (sym c.place_of.ensures.value ∙ c.in_default.is)

pub next_frame-requires : goal.next_frame-requires
next_frame-requires c = c.in-Some.ensures.within

pub returns-in_default-next_frame : goal.returns-in_default-next_frame
returns-in_default-next_frame c =
    let seg = c.args.self.now in
    sym (ap refusal_of (at_any seg c.args.station c.in-Some.place (takes seg c.args.room) (Err NothingToTake) c.in-Some.ensures.value c.in-Some.ensures.within
    (λ st. ap (takes_by seg c.args.room c.in-Some.place st) (sym c.next_frame.ensures ∙ c.in_default-next_frame.is))))

pub index-requires : goal.index-requires
index-requires c = within_here c.self.inside c.args.self.now c.in-Some.place c.self.view_is c.in-Some.ensures.within

pub returns : goal.returns
returns c =
    c.refusal_by.ensures ∙ ap first_refusal c.take_refusal.ensures
    ∙ refused_for _ _ _ (at_here c.self.inside _ _ c.in-Some.place c.index.result.now _ c.self.view_is c.in-Some.ensures.value c.in-Some.ensures.within c.index.ensures
    ∙ takes_are c.args.self.now c.in-Some.place c.index.result.now c.args.room c.in-Some-next_frame._next c.in-Some-next_frame.ensures) refl
