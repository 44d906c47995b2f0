use Rattle.std.proofs.Common.{Err, refl, sym, ap, ◌∙◌}
use Rattle.bus_order.specs.Bus.{frame_again}
use Rattle.segment_law.specs.Calls.{repeats_by, repeats}
use Rattle.segment_law.specs.declared.refusal.Refusal.TheVariants.{NothingToRepeat}
use Rattle.segment_state.specs.Answers.{refusal_of, first_refusal}
use Rattle.segment_state.proofs.Refusals.{repeats_are, refused_for}
use Rattle.segment_state.proofs.Kept.{at_here}
use Rattle.segment_state.proofs.Calling.{within_here, cursor_here, at_any, no_station}
use Rattle.segment_state.proofs.state.SegmentState.repeat_refusal.Goals as goal

pub returns-in_default : goal.returns-in_default
returns-in_default c = no_station c.args.self.now c.args.station (repeats c.args.self.now c.args.room) (sym c.place_of.ensures.value ∙ c.in_default.is)

pub again-requires : goal.again-requires
again-requires c = cursor_here c.self.inside c.args.self.now c.in-Some.place c.self.invariant c.self.view_is c.in-Some.ensures.within

pub returns-in_default-again : goal.returns-in_default-again
returns-in_default-again c =
    let seg = c.args.self.now in
    sym (ap refusal_of (at_any seg c.args.station c.in-Some.place (repeats seg c.args.room) (Err NothingToRepeat) c.in-Some.ensures.value c.in-Some.ensures.within
    (λ st. ap (repeats_by seg c.args.room c.in-Some.place st) (ap (λ x. frame_again x.bus c.in-Some.place) (sym c.self.view_is) ∙ sym c.again.ensures.frame ∙ c.in_default-again.is))))

pub index-requires : goal.index-requires
index-requires c = within_here c.self.inside c.args.self.now c.in-Some.place c.self.view_is c.in-Some.ensures.within

pub returns : goal.returns
returns c =
    c.refusal_by.ensures ∙ ap first_refusal c.take_refusal.ensures
    ∙ refused_for _ _ _ (at_here c.self.inside _ _ c.in-Some.place c.index.result.now _ c.self.view_is c.in-Some.ensures.value c.in-Some.ensures.within c.index.ensures
    ∙ repeats_are c.args.self.now c.in-Some.place c.index.result.now c.args.room c.in-Some-again._last (c.in-Some-again.ensures.frame ∙ ap (λ x. frame_again x.bus c.in-Some.place) c.self.view_is)) refl
