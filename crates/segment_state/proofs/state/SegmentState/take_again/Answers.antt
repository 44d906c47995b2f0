use Rattle.std.proofs.Common.{◌≡◌, refl, sym, ap, ◌∙◌}
use Rattle.bus_order.specs.Bus.{frame_again}
use Rattle.station_core.specs.Taking.{taken}
use Rattle.segment_law.specs.Calls.{repeats}
use Rattle.segment_state.proofs.Addresses.{taken_keeps}
use Rattle.segment_state.proofs.Refusals.{repeats_are, stops}
use Rattle.segment_state.proofs.Stations.{at_none}
use Rattle.segment_state.proofs.Kept.{inside_kept, at_here, repeats_is, repeated_view, unchanged_view}
use Rattle.segment_state.proofs.Calling.{within_here, cursor_here}
use Rattle.segment_state.proofs.state.SegmentState.take_again.Goals as goal

pub returns-in_default-clause-answer : goal.returns-in_default-clause-answer
returns-in_default-clause-answer c = (at_none c.args.self.now c.args.station (repeats c.args.self.now c.args.room) (sym c.place_of.ensures.value ∙ c.in_default.is), refl)

pub again-requires : goal.again-requires
again-requires c = cursor_here c.self.inside c.args.self.now c.in-Some.place c.self.invariant c.self.view_is c.in-Some.ensures.within

pub index_mut-requires : goal.index_mut-requires
index_mut-requires c = within_here c.self.inside c.args.self.now c.in-Some.place c.self.view_is c.in-Some.ensures.within

pub invariant_of-self : goal.invariant_of-self
invariant_of-self c =
    inside_kept c.self.inside c.in-Some.place c.take.new.self c.index_mut.result.now c.self.invariant c.index_mut.ensures.value (ap (λ st. st.address) c.in-Err.ensures.err)

pub invariant_of-self-2 : goal.invariant_of-self-2
invariant_of-self-2 c =
    let kept = inside_kept c.self.inside c.in-Some.place c.take.new.self c.index_mut.result.now c.self.invariant c.index_mut.ensures.value
    (ap (λ s. s.station.address) (sym c.in-Ok.ensures.ok) ∙ taken_keeps c.index_mut.result.now c.in-Some-again.frame c.args.room c.now-now.result) in
    record { few = kept.few; cursors = kept.cursors; places = kept.places; in_place = kept.in_place }

pub returns-clause-answer : goal.returns-clause-answer
returns-clause-answer c =
    let now_is : c.now-now.result ≡ c.args.self.now.now = c.now-now.ensures.value ∙ ap (λ x. x.now) c.self.view_is in
    at_here c.self.inside _ _ c.in-Some.place c.index_mut.result.now _ c.self.view_is c.in-Some.ensures.value c.in-Some.ensures.within c.index_mut.ensures.value
    ∙ repeats_is _ c.args.room c.in-Some.place c.index_mut.result.now c.in-Some-again.frame _ (c.in-Some-again.ensures.frame ∙ ap (λ x. frame_again x.bus c.in-Some.place) c.self.view_is) c.in-Ok.ensures.refused (ap (λ n. taken c.index_mut.result.now c.in-Some-again.frame c.args.room n) (sym now_is) ∙ c.in-Ok.ensures.ok)
    ∙ repeated_view c.self.inside _ c.in-Some.place c.index_mut.result.now c.in-Some-again.frame c.take.new.self c.take.new.told c.in-Ok.is_malformed c.count_repeat.new.counts _ _ c.self.view_is c.in-Ok.ensures.malformed c.count_repeat.ensures c.looked.ensures refl

pub returns-in-Err-clause-answer : goal.returns-in-Err-clause-answer
returns-in-Err-clause-answer c =
    stops _ _ _ (at_here c.self.inside _ _ c.in-Some.place c.index_mut.result.now _ c.self.view_is c.in-Some.ensures.value c.in-Some.ensures.within c.index_mut.ensures.value
    ∙ repeats_are c.args.self.now c.in-Some.place c.index_mut.result.now c.args.room c.in-Some-again.frame (c.in-Some-again.ensures.frame ∙ ap (λ x. frame_again x.bus c.in-Some.place) c.self.view_is)) _ _ c.in-Err.cause _ c.stop_of.ensures refl
    (unchanged_view c.self.inside _ c.in-Some.place _ c.index_mut.result.now c.self.view_is c.in-Err.ensures.err c.index_mut.ensures.value)
    c.in-Err.ensures.refused
