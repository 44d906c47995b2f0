use Rattle.segment_law.specs.declared.reply.Reply.TheVariants.{Done}
use Rattle.std.proofs.Common.{◌≡◌, ◌<◌, ◌≤◌, length, Err, refl, sym, ap, ◌∙◌, subst, rules, length-set}
use Rattle.std.proofs.lemmas.Bool.{OnTrue_at}
use Rattle.bus_order.specs.Bus.{waiting, passed, released}
use Rattle.segment_law.specs.Calls.{at_address, overruns}
use Rattle.segment_state.specs.declared.stop.Stop.TheVariants.{OutOfMemory}
use Rattle.segment_state.proofs.Stations.{at_none}
use Rattle.segment_state.proofs.Kept.{inside_kept, inside_moved, at_here, passes_here, no_memory, overruns_pass, unchanged_view}
use Rattle.segment_state.proofs.Calling.{within_here, cursor_here, at_any, overruns_many, overruns_is, missed_view}
use Rattle.segment_state.proofs.state.SegmentState.overrun.Goals as goal

pub returns-in_default-clause-answer : goal.returns-in_default-clause-answer
returns-in_default-clause-answer c = (at_none c.args.self.now c.args.station (overruns c.args.self.now c.args.n) (sym c.place_of.ensures.value ∙ c.in_default.is), refl)

pub waiting-requires : goal.waiting-requires
waiting-requires c = cursor_here c.self.inside c.args.self.now c.in-Some.place c.self.invariant c.self.view_is c.in-Some.ensures.within

pub returns-then-n-waiting-clause-answer : goal.returns-then-n-waiting-clause-answer
returns-then-n-waiting-clause-answer c =
    let seg = c.args.self.now in
    let waits : c.waiting.result ≡ waiting seg.bus c.in-Some.place = c.waiting.ensures ∙ ap (λ x. waiting x.bus c.in-Some.place) c.self.view_is in (
      at_any seg c.args.station c.in-Some.place (overruns seg c.args.n) _ c.in-Some.ensures.value c.in-Some.ensures.within (λ st. overruns_many seg c.args.n c.in-Some.place st (subst (λ n. n < c.args.n) waits c.if-n-waiting.true)),
      refl,
    )

pub index_mut-requires : goal.index_mut-requires
index_mut-requires c = within_here c.self.inside c.args.self.now c.in-Some.place c.self.view_is c.in-Some.ensures.within

pub invariant_of-self : goal.invariant_of-self
invariant_of-self c =
    inside_kept c.self.inside c.in-Some.place c.overrun.new.self c.index_mut.result.now c.self.invariant c.index_mut.ensures.value (ap (λ st. st.address) c.in_err-events.ensures.err)

pub returns-in_err-events-clause-answer : goal.returns-in_err-events-clause-answer
returns-in_err-events-clause-answer c =
    let e : c.from_residual.result ≡ Err OutOfMemory = search rules in
    let waits : c.args.n ≤ waiting c.args.self.now.bus c.in-Some.place = subst (λ n. c.args.n ≤ n) (c.waiting.ensures ∙ ap (λ x. waiting x.bus c.in-Some.place) c.self.view_is) c.if-n-waiting.false in
    no_memory (λ _. Done c.args.told.now) (at_address c.args.self.now c.args.station (overruns c.args.self.now c.args.n)) c.args.self.now _ c.from_residual.result e (
      passes_here c.self.inside _ _ c.in-Some.place c.index_mut.result.now _ c.self.view_is c.in-Some.ensures.value c.in-Some.ensures.within c.index_mut.ensures.value
          (overruns_pass c.args.self.now c.args.n c.in-Some.place c.index_mut.result.now waits),
      unchanged_view c.self.inside _ c.in-Some.place _ c.index_mut.result.now c.self.view_is c.in_err-events.ensures.err c.index_mut.ensures.value,
    )

pub skip-passed-requires : goal.skip-passed-requires
skip-passed-requires c = cursor_here c.self.inside c.args.self.now c.in-Some.place c.self.invariant c.self.view_is c.in-Some.ensures.within

pub invariant_of-self-2 : goal.invariant_of-self-2
invariant_of-self-2 c =
    let waits : c.args.n ≤ waiting c.self.inside.bus c.in-Some.place = subst (λ n. c.args.n ≤ n) c.waiting.ensures c.if-n-waiting.false in
    let move : c.skip-passed.new.self ≡ passed c.self.inside.bus c.in-Some.place c.args.n = OnTrue_at (c.skip-passed.ensures.waits.1 waits) c.skip-passed.ensures.passed in
    inside_moved c.self.inside c.in-Some.place c.overrun.new.self c.index_mut.result.now c.release.new.self c.self.invariant c.index_mut.ensures.value
    (sym (ap (λ s. s.station.address) c.in_ok-events.ensures.ok))
    (ap (λ b. length b.cursors) (c.release.ensures.released ∙ ap released move) ∙ length-set c.self.inside.bus.cursors c.in-Some.place _)

pub returns-clause-answer : goal.returns-clause-answer
returns-clause-answer c =
    let seg = c.args.self.now in
    let inner : c.args.n ≤ waiting c.self.inside.bus c.in-Some.place = subst (λ n. c.args.n ≤ n) c.waiting.ensures c.if-n-waiting.false in
    let waits : c.args.n ≤ waiting seg.bus c.in-Some.place = subst (λ x. c.args.n ≤ waiting x.bus c.in-Some.place) c.self.view_is inner in
    let move : c.skip-passed.new.self ≡ passed c.self.inside.bus c.in-Some.place c.args.n = OnTrue_at (c.skip-passed.ensures.waits.1 inner) c.skip-passed.ensures.passed in
    at_here c.self.inside seg c.args.station c.in-Some.place c.index_mut.result.now _ c.self.view_is c.in-Some.ensures.value c.in-Some.ensures.within c.index_mut.ensures.value
    ∙ overruns_is seg c.args.n c.in-Some.place c.index_mut.result.now _ waits c.in_ok-events.ensures.ok
    ∙ missed_view c.self.inside seg c.args.n c.in-Some.place c.overrun.new.self c.in_ok-events.events _ _ _ _ c.self.view_is move c.release.ensures.released c.tell.ensures.counts (ap Done c.tell.ensures.events)
