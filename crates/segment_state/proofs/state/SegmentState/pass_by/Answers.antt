use Rattle.std.proofs.Common.{◌≡◌, true, false, length, ap, sym, ◌∙◌, refl, length-set}
use Rattle.std.specs.Prelude.{is_some}
use Rattle.bus_order.specs.Bus.{Bus}
use Rattle.station_core.specs.Refusals.{taking_refusal}
use Rattle.segment_law.specs.Segment.{place_of}
use Rattle.segment_state.proofs.Calling.{within_here, cursor_here}
use Rattle.segment_state.proofs.PassedBy.{none_there, none_waits, waits_here, waits_nowhere, rests_nowhere, rests_here, busy_full, busy_with, passes_on, passed_by}
use Rattle.segment_state.proofs.state.SegmentState.pass_by.Goals as goal

pub returns-in_default-clause-value : goal.returns-in_default-clause-value
returns-in_default-clause-value c = rests_nowhere c.args.self.now c.args.station (sym c.place_of.ensures.value ∙ c.in_default.is)

pub returns-in_default-clause-made : goal.returns-in_default-clause-made
returns-in_default-clause-made c = (waits_nowhere c.args.self.now c.args.station (sym c.place_of.ensures.value ∙ c.in_default.is), refl)

pub peek-requires : goal.peek-requires
peek-requires c = cursor_here c.self.inside c.args.self.now c.in-Some.place c.self.invariant c.self.view_is c.in-Some.ensures.within

pub returns-in_default-peek-clause-value : goal.returns-in_default-peek-clause-value
returns-in_default-peek-clause-value c = rests_here c.self.inside c.args.self.now c.args.station c.in-Some.place c.self.view_is c.in-Some.ensures.value c.in_default-peek.ensures.frame

pub returns-in_default-peek-clause-made : goal.returns-in_default-peek-clause-made
returns-in_default-peek-clause-made c = (waits_here c.self.inside c.args.self.now c.args.station c.in-Some.place 0 c.self.view_is c.in-Some.ensures.value (none_waits _ c.in_default-peek.ensures.waits.1), refl)

pub index-taker-requires : goal.index-taker-requires
index-taker-requires c = within_here c.self.inside c.args.self.now c.in-Some.place c.self.view_is c.in-Some.ensures.within

pub returns-then-is_some-clause-value : goal.returns-then-is_some-clause-value
returns-then-is_some-clause-value c =
    let full : is_some (taking_refusal c.index-taker.result.now) ≡ true = ap is_some (sym c.take_refusal.ensures) ∙ sym c.is_some.ensures ∙ c.if-is_some.true in
    busy_full c.self.inside c.args.self.now c.args.station c.in-Some.place c.self.view_is c.in-Some.ensures.value c.index-taker.result.now c.in-Some-peek.frame.now c.in-Some.ensures.within c.index-taker.ensures c.in-Some-peek.ensures.frame full

pub returns-then-concerns-clause-value : goal.returns-then-concerns-clause-value
returns-then-concerns-clause-value c =
    let free : is_some (taking_refusal c.index-taker.result.now) ≡ false = ap is_some (sym c.take_refusal.ensures) ∙ sym c.is_some.ensures ∙ c.if-is_some.false in
    busy_with c.self.inside c.args.self.now c.args.station c.in-Some.place c.self.view_is c.in-Some.ensures.value c.index-taker.result.now c.in-Some-peek.frame.now c.in-Some.ensures.within c.index-taker.ensures c.in-Some-peek.ensures.frame free
    (sym c.concerns.ensures ∙ c.if-concerns.true)

pub pass-requires-clause-cursor : goal.pass-requires-clause-cursor
pass-requires-clause-cursor c = cursor_here c.self.inside c.args.self.now c.in-Some.place c.self.invariant c.self.view_is c.in-Some.ensures.within

pub pass-requires-clause-waits : goal.pass-requires-clause-waits
pass-requires-clause-waits c = c.in-Some-peek.ensures.waits.0 refl

pub invariant_of-self : goal.invariant_of-self
invariant_of-self c =
    let h = c.self.invariant in
    record { few = h.few; cursors = ap (λ (b : Bus). length b.cursors) c.pass.ensures.passed ∙ length-set c.self.inside.bus.cursors c.in-Some.place _ ∙ h.cursors; places = h.places; in_place = h.in_place }

pub returns-clause-value : goal.returns-clause-value
returns-clause-value c =
    let free : is_some (taking_refusal c.index-taker.result.now) ≡ false = ap is_some (sym c.take_refusal.ensures) ∙ sym c.is_some.ensures ∙ c.if-is_some.false in
    passes_on c.self.inside c.args.self.now c.args.station c.in-Some.place c.self.view_is c.in-Some.ensures.value c.index-taker.result.now c.in-Some-peek.frame.now c.in-Some.ensures.within c.index-taker.ensures c.in-Some-peek.ensures.frame free
    (sym c.concerns.ensures ∙ c.if-concerns.false)

pub returns-clause-made : goal.returns-clause-made
returns-clause-made c =
    passed_by c.self.inside c.args.self.now c.args.station c.in-Some.place c.index-taker.result.now c.in-Some-peek.frame.now c.pass.new.self c.self.view_is c.in-Some.ensures.value c.in-Some.ensures.within c.index-taker.ensures
    c.in-Some-peek.ensures.frame (c.in-Some-peek.ensures.waits.0 refl) (sym c.take_refusal.ensures ∙ none_there c.take_refusal.result (sym c.is_some.ensures ∙ c.if-is_some.false)) (sym c.concerns.ensures ∙ c.if-concerns.false) c.pass.ensures.passed
