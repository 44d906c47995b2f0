use Rattle.segment_law.specs.declared.reply.Reply.TheVariants.{Done}
use Rattle.std.proofs.Common.{refl, sym, ap, ◌∙◌}
use Rattle.segment_law.specs.Calls.{stepped, cancels}
use Rattle.segment_state.proofs.Refusals.{cancels_by, goes_on, refuses}
use Rattle.segment_state.proofs.Stations.{at_none}
use Rattle.segment_state.proofs.Kept.{inside_kept, at_here, told_view, unchanged_view}
use Rattle.segment_state.proofs.Calling.{within_here}
use Rattle.segment_state.proofs.state.SegmentState.cancel.Goals as goal

pub returns-in_default-clause-answer : goal.returns-in_default-clause-answer
returns-in_default-clause-answer c = (at_none c.args.self.now c.args.from (cancels c.args.self.now c.args.to c.args.number) (sym c.place_of.ensures.value ∙ c.in_default.is), refl)

pub index_mut-requires : goal.index_mut-requires
index_mut-requires c = within_here c.self.inside c.args.self.now c.in-Some.place c.self.view_is c.in-Some.ensures.within

pub invariant_of-self : goal.invariant_of-self
invariant_of-self c =
    inside_kept c.self.inside c.in-Some.place c.cancel.new.self c.index_mut.result.now c.self.invariant c.index_mut.ensures.value (ap (λ s. s.station.address) (sym c.in-Ok.ensures.ok))

pub invariant_of-self-in-Err : goal.invariant_of-self-in-Err
invariant_of-self-in-Err c =
    inside_kept c.self.inside c.in-Some.place c.cancel.new.self c.index_mut.result.now c.self.invariant c.index_mut.ensures.value (ap (λ st. st.address) c.in-Err.ensures.err)

pub returns-in-Ok-clause-answer : goal.returns-in-Ok-clause-answer
returns-in-Ok-clause-answer c =
    at_here c.self.inside _ _ c.in-Some.place c.index_mut.result.now _ c.self.view_is c.in-Some.ensures.value c.in-Some.ensures.within c.index_mut.ensures.value
    ∙ goes_on _ _ _ (cancels_by c.args.self.now c.in-Some.place c.index_mut.result.now c.args.to c.args.number) (sym c.in-Ok.ensures.refused)
    ∙ ap (stepped c.args.self.now c.in-Some.place) c.in-Ok.ensures.ok
    ∙ told_view c.self.inside _ c.in-Some.place c.cancel.new.self c.in-Ok.events _ _ c.self.view_is c.tell.ensures.counts (ap Done c.tell.ensures.events)

pub returns-in-Err-clause-answer : goal.returns-in-Err-clause-answer
returns-in-Err-clause-answer c =
    refuses _ _ _ (at_here c.self.inside _ _ c.in-Some.place c.index_mut.result.now _ c.self.view_is c.in-Some.ensures.value c.in-Some.ensures.within c.index_mut.ensures.value
    ∙ cancels_by c.args.self.now c.in-Some.place c.index_mut.result.now c.args.to c.args.number) _ _ c.in-Err.cause _ c.refused.ensures refl
    (unchanged_view c.self.inside _ c.in-Some.place _ c.index_mut.result.now c.self.view_is c.in-Err.ensures.err c.index_mut.ensures.value)
    c.in-Err.ensures.refused
