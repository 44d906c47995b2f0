use Rattle.std.proofs.Common.{◌≡◌, List, [], ◌∷◌, ◌++◌, length, drop, sym, ap, ◌∙◌, subst, arith, rules}
use Rattle.std.proofs.lemmas.List.{length_push}
use Rattle.segment_law.specs.Segment.{Segment}
use Rattle.std.specs.Vec.Iter.{into_iter_items}
use Rattle.segment_law.specs.Record.{StandsAt}
use Rattle.segment_law.specs.declared.reply.Reply.{Reply}
use Rattle.segment_law.specs.declared.call.Call.{Call}
use Rattle.segment_core.specs.Runs.{steps_of, FirstIsNotRefused}
use Rattle.segment_core.proofs.Running.{Made, nothing_made, one_more, made_stands, next_passes}
use Rattle.segment_core.proofs.segment.Segment.run.Goals as goal

pub returns-in-Err-clause-stands : goal.returns-in-Err-clause-stands
returns-in-Err-clause-stands c = λ addresses steps h.
    let e : c.reserve.new.self.items ≡ [] = search rules in
    subst (λ (rs : List Reply). StandsAt addresses (steps ++ steps_of c.args.calls.items rs) c.args.self.now) (sym e)
    (made_stands c.args.self.now c.args.calls.items [] c.args.calls.items c.args.self.now [] (nothing_made c.args.self.now c.args.calls.items) addresses steps h)

pub loop-call-preserved : goal.loop-call-preserved
loop-call-preserved c =
    let at = c.loop-call in
    let all = into_iter_items c.into_iter-call-iterator.result in
    let rest = into_iter_items c.next.new.self in
    let steps : into_iter_items at.call-iterator ≡ c.in-Some.call ∷ rest = c.in-Some.ensures.steps.0 in
    let made : Made c.args.self.now all at.yielded (c.in-Some.call ∷ rest) at.self at.replies.items = subst (λ (cs : List Call). Made c.args.self.now all at.yielded cs at.self at.replies.items) steps at.invariant.0 in
    let was = at.invariant.1 in
    let room = at.invariant.2 in
    let gone = c.in-Some.ensures.steps.1 in
    let short = ap (λ (cs : List Call). length cs) steps in
    let more = ap (λ (rs : List Reply). length rs) c.push_reserved.ensures.items ∙ length_push at.replies.items c.in-Ok.reply in
    let capacity = c.push_reserved.ensures.capacity in (
      one_more c.args.self.now all at.yielded rest at.self c.apply.new.self at.replies.items c.push_reserved.new.self.items c.in-Some.call c.in-Ok.reply made c.in-Ok.ensures.ok c.push_reserved.ensures.items (λ addresses ss s. c.in-Ok.ensures.stands addresses ss s),
      omega arith,
      omega arith,
    )

pub returns-in-Err-apply-clause-stands : goal.returns-in-Err-apply-clause-stands
returns-in-Err-apply-clause-stands c = λ addresses ss h.
    let at = c.loop-call in
    let given = into_iter_items c.into_iter-call-iterator.result in
    let all : given ≡ c.args.calls.items = c.into_iter-call-iterator.ensures.into_iter_gives.0 in
    let stands = made_stands c.args.self.now given at.yielded (into_iter_items at.call-iterator) at.self at.replies.items at.invariant.0 addresses ss h in
    subst (λ (cs : List Call). StandsAt addresses (ss ++ steps_of cs at.replies.items) c.apply.new.self) all
    (subst (λ (s : Segment). StandsAt addresses (ss ++ steps_of given at.replies.items) s) (sym c.in-Err-apply.ensures.err) stands)

pub returns-in-Err-apply-clause-next : goal.returns-in-Err-apply-clause-next
returns-in-Err-apply-clause-next c = λ _ _.
    let at = c.loop-call in
    let given = into_iter_items c.into_iter-call-iterator.result in
    let all : given ≡ c.args.calls.items = c.into_iter-call-iterator.ensures.into_iter_gives.0 in
    let rest = into_iter_items c.next.new.self in
    let steps : into_iter_items at.call-iterator ≡ c.in-Some.call ∷ rest = c.in-Some.ensures.steps.0 in
    let made : Made c.args.self.now given at.yielded (c.in-Some.call ∷ rest) at.self at.replies.items = subst (λ (cs : List Call). Made c.args.self.now given at.yielded cs at.self at.replies.items) steps at.invariant.0 in
    subst (λ (cs : List Call). FirstIsNotRefused c.apply.new.self (drop (length at.replies.items) cs)) all
    (next_passes c.args.self.now given at.yielded rest at.self c.apply.new.self at.replies.items c.in-Some.call made c.in-Err-apply.ensures.err c.in-Err-apply.ensures.not_refused)

pub returns-in-Err-clause-headline : goal.returns-in-Err-clause-headline
returns-in-Err-clause-headline c = λ addresses steps. c.the_headline_holds.ensures addresses steps _

pub returns-clause-headline : goal.returns-clause-headline
returns-clause-headline c = λ addresses steps. c.the_headline_holds.ensures addresses steps _
