use Rattle.std.proofs.Common.{refl, sym, ap, ◌∙◌}
use Rattle.segment_law.specs.Calls.{pauses}
use Rattle.segment_state.proofs.Refusals.{pauses_by, goes_on, refuses}
use Rattle.segment_state.proofs.Stations.{at_none}
use Rattle.segment_state.proofs.Kept.{inside_kept, at_here, stepped_view, unchanged_view}
use Rattle.segment_state.proofs.Calling.{within_here}
use Rattle.segment_state.proofs.state.SegmentState.pause.Goals as goal
use Rattle.segment_state.proofs.state.SegmentState.pause.Goals.{in-Ok, in-Err}

pub returns-in_default : goal.returns-in_default
returns-in_default c = (at_none c.args.self.now c.args.port.station (pauses c.args.self.now c.args.port.number) (sym c.place_of.ensures.value ∙ c.in_default.is), refl)

pub index_mut-requires : goal.index_mut-requires
index_mut-requires c = within_here c.self.inside c.args.self.now c.in-Some.place c.self.view_is c.in-Some.ensures.within

pub invariant_of-self : goal.invariant_of-self
invariant_of-self c = elim c.match-pause.branch [
  | in-Ok w ↦ inside_kept c.self.inside c.in-Some.place c.pause.new.self c.index_mut.result.now c.self.invariant c.index_mut.ensures.value (ap (λ st. st.address) w.in-Ok.ensures.ok)
  | in-Err w ↦ inside_kept c.self.inside c.in-Some.place c.pause.new.self c.index_mut.result.now c.self.invariant c.index_mut.ensures.value (ap (λ st. st.address) w.in-Err.ensures.err)
]

pub returns : goal.returns
returns c = elim c.match-pause.branch [
  | in-Ok w ↦ rw w.result-is
      (at_here c.self.inside _ _ c.in-Some.place c.index_mut.result.now _ c.self.view_is c.in-Some.ensures.value c.in-Some.ensures.within c.index_mut.ensures.value
      ∙ goes_on _ _ _ (pauses_by c.args.self.now c.in-Some.place c.index_mut.result.now c.args.port.number) (sym w.in-Ok.ensures.refused)
      ∙ stepped_view c.self.inside _ c.in-Some.place _ _ _ _ c.self.view_is w.in-Ok.ensures.ok refl)
  | in-Err w ↦ rw w.result-is
      (refuses _ _ _ (at_here c.self.inside _ _ c.in-Some.place c.index_mut.result.now _ c.self.view_is c.in-Some.ensures.value c.in-Some.ensures.within c.index_mut.ensures.value
      ∙ pauses_by c.args.self.now c.in-Some.place c.index_mut.result.now c.args.port.number) _ _ w.in-Err.cause _ w.refused.ensures refl
      (unchanged_view c.self.inside _ c.in-Some.place _ c.index_mut.result.now c.self.view_is w.in-Err.ensures.err c.index_mut.ensures.value)
      w.in-Err.ensures.refused)
]
