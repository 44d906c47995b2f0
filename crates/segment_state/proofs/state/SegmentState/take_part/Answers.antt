use Rattle.std.proofs.Common.{rules, ◌≡◌, Bool, true, [], length, Some, None, Err, refl, sym, ap, ◌∙◌, length-set}
use Rattle.bus_order.specs.Bus.{taken as moved, next_frame}
use Rattle.station_core.specs.Taking.{taken, wanted, is_malformed_for}
use Rattle.segment_law.specs.Calls.{takes_by, takes}
use Rattle.segment_law.specs.declared.refusal.Refusal.TheVariants.{NothingToTake}
use Rattle.segment_state.proofs.Addresses.{taken_keeps}
use Rattle.segment_state.proofs.Refusals.{takes_are, stops}
use Rattle.segment_state.proofs.Stations.{at_none}
use Rattle.segment_state.proofs.Kept.{inside_kept, inside_moved, at_here, takes_is, taken_view, unchanged_view, wanted_next, when_some, when_this, when_none}
use Rattle.segment_state.proofs.Calling.{within_here, cursor_here, at_any, of_here, may_ask}
use Rattle.segment_state.specs.declared.stop.Stop.TheVariants.{OutOfMemory}
use Rattle.segment_state.proofs.state.SegmentState.take_part.Goals as goal

pub returns-in_default-clause-answer : goal.returns-in_default-clause-answer
returns-in_default-clause-answer c = (at_none c.args.self.now c.args.station (takes c.args.self.now true) (sym c.place_of.ensures.value ∙ c.in_default.is), refl)

pub peek-requires : goal.peek-requires
peek-requires c = cursor_here c.self.inside c.args.self.now c.in-Some.at c.self.invariant c.self.view_is c.in-Some.ensures.within

pub returns-in_default-peek-clause-answer : goal.returns-in_default-peek-clause-answer
returns-in_default-peek-clause-answer c = (
  at_any c.args.self.now c.args.station c.in-Some.at (takes c.args.self.now true) (Err NothingToTake) c.in-Some.ensures.value c.in-Some.ensures.within
      (λ st. ap (takes_by c.args.self.now true c.in-Some.at st) (ap (λ x. next_frame x.bus c.in-Some.at) (sym c.self.view_is) ∙ sym c.in_default-peek.ensures.frame)),
  refl,
)

pub index_mut-requires : goal.index_mut-requires
index_mut-requires c = within_here c.self.inside c.args.self.now c.in-Some.at c.self.view_is c.in-Some.ensures.within

pub invariant_of-self : goal.invariant_of-self
invariant_of-self c =
    let is : c.in-Ok-None.field-0 ≡ None = search rules in
    inside_kept c.self.inside c.in-Some.at c.take_part.new.self c.index_mut.result.now c.self.invariant c.index_mut.ensures.value (ap (λ st. st.address) (when_none (c.take_part.new.self ≡ c.index_mut.result.now) c.in-Ok-None.field-0 is c.in-Ok-None.ensures.whole))

pub pass-requires-clause-cursor : goal.pass-requires-clause-cursor
pass-requires-clause-cursor c = cursor_here c.self.inside c.args.self.now c.in-Some.at c.self.invariant c.self.view_is c.in-Some.ensures.within

pub pass-requires-clause-waits : goal.pass-requires-clause-waits
pass-requires-clause-waits c = c.in-Some-peek.ensures.waits.0 refl

pub invariant_of-self-2 : goal.invariant_of-self-2
invariant_of-self-2 c =
    let is : c.in-Ok-Some.field-0 ≡ Some c.in-Ok-Some.is_malformed = search rules in
    inside_moved c.self.inside c.in-Some.at c.take_part.new.self c.index_mut.result.now c.pass.new.self c.self.invariant c.index_mut.ensures.value
    (ap (λ s. s.station.address) (sym (when_some (taken c.index_mut.result.now c.in-Some-peek.frame.now true c.now-now.result ≡ record { station = c.take_part.new.self; events = c.take_part.new.told }) c.in-Ok-Some.field-0 c.in-Ok-Some.is_malformed is c.in-Ok-Some.ensures.ok)) ∙ taken_keeps c.index_mut.result.now c.in-Some-peek.frame.now true c.now-now.result)
    (ap (λ b. length b.cursors) c.pass.ensures.passed ∙ length-set c.self.inside.bus.cursors c.in-Some.at _)

pub returns-clause-answer : goal.returns-clause-answer
returns-clause-answer c =
    let is : c.in-Ok-Some.field-0 ≡ Some c.in-Ok-Some.is_malformed = search rules in
    let now_is : c.now-now.result ≡ c.args.self.now.now = c.now-now.ensures.value ∙ ap (λ x. x.now) c.self.view_is in
    let next : Some c.in-Some-peek.frame.now ≡ next_frame c.args.self.now.bus c.in-Some.at = c.in-Some-peek.ensures.frame ∙ ap (λ x. next_frame x.bus c.in-Some.at) c.self.view_is in
    at_here c.self.inside _ _ c.in-Some.at c.index_mut.result.now _ c.self.view_is c.in-Some.ensures.value c.in-Some.ensures.within c.index_mut.ensures.value
    ∙ takes_is _ true c.in-Some.at c.index_mut.result.now c.in-Some-peek.frame.now _ next c.in-Ok-Some.ensures.refused (ap (λ n. taken c.index_mut.result.now c.in-Some-peek.frame.now true n) (sym now_is) ∙ (when_some (taken c.index_mut.result.now c.in-Some-peek.frame.now true c.now-now.result ≡ record { station = c.take_part.new.self; events = c.take_part.new.told }) c.in-Ok-Some.field-0 c.in-Ok-Some.is_malformed is c.in-Ok-Some.ensures.ok))
    ∙ taken_view c.self.inside _ c.in-Some.at c.index_mut.result.now c.in-Some-peek.frame.now c.take_part.new.self c.take_part.new.told c.in-Ok-Some.is_malformed (moved c.self.inside.bus c.in-Some.at) _ _ _ c.self.view_is (when_this (λ (m : Bool). m ≡ is_malformed_for c.index_mut.result.now c.in-Some-peek.frame.now) c.in-Ok-Some.field-0 c.in-Ok-Some.is_malformed is c.in-Ok-Some.ensures.malformed) refl c.pass.ensures.passed c.looked.ensures refl

pub returns-in-Err-clause-answer : goal.returns-in-Err-clause-answer
returns-in-Err-clause-answer c =
    stops _ _ _ (at_here c.self.inside _ _ c.in-Some.at c.index_mut.result.now _ c.self.view_is c.in-Some.ensures.value c.in-Some.ensures.within c.index_mut.ensures.value
    ∙ takes_are c.args.self.now c.in-Some.at c.index_mut.result.now true c.in-Some-peek.frame.now (c.in-Some-peek.ensures.frame ∙ ap (λ x. next_frame x.bus c.in-Some.at) c.self.view_is)) _ _ c.in-Err.cause _ c.stop_of.ensures refl
    (unchanged_view c.self.inside _ c.in-Some.at _ c.index_mut.result.now c.self.view_is c.in-Err.ensures.err c.index_mut.ensures.value)
    c.in-Err.ensures.refused

pub returns-in-Err-clause-memory : goal.returns-in-Err-clause-memory
returns-in-Err-clause-memory c = λ e.
    let stops : c.stop_of.result ≡ OutOfMemory = cc in
    may_ask c.args.self.now c.args.station c.in-Some.at true c.index_mut.result.now c.in-Some-peek.frame.now c.in-Err.cause c.in-Some.ensures.value
    (of_here c.self.inside c.args.self.now c.args.station c.in-Some.at c.index_mut.result.now c.self.view_is c.in-Some.ensures.value c.in-Some.ensures.within c.index_mut.ensures.value)
    (c.in-Some-peek.ensures.frame ∙ ap (λ x. next_frame x.bus c.in-Some.at) c.self.view_is)
    c.in-Err.ensures.refused (λ _. refl) c.in-Err.ensures.memory (sym c.stop_of.ensures ∙ stops)

pub returns-clause-none : goal.returns-clause-none
returns-clause-none c =
    let is : c.in-Ok-Some.field-0 ≡ Some c.in-Ok-Some.is_malformed = search rules in
    wanted_next c.args.self.now c.args.station c.in-Some.at c.index_mut.result.now c.in-Some-peek.frame.now c.in-Some.ensures.value
    (of_here c.self.inside c.args.self.now c.args.station c.in-Some.at c.index_mut.result.now c.self.view_is c.in-Some.ensures.value c.in-Some.ensures.within c.index_mut.ensures.value)
    (c.in-Some-peek.ensures.frame ∙ ap (λ x. next_frame x.bus c.in-Some.at) c.self.view_is)
    c.in-Ok-Some.ensures.refused
    ∙ when_some (wanted c.index_mut.result.now c.in-Some-peek.frame.now ≡ ([], 0)) c.in-Ok-Some.field-0 c.in-Ok-Some.is_malformed is c.in-Ok-Some.ensures.none
