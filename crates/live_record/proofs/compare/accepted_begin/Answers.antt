use Rattle.std.proofs.Common.{◌≡◌, ◌+◌, ◌++◌, ◌<◌, length, take, drop, true, false, sym, ap, ◌∙◌, subst, refl, arith, List}
use Rattle.std.proofs.lemmas.List.{take_all, take-append-drop}
use mathlib.Core.List.{IsPrefix}
use Rattle.segment_law.specs.declared.call.Call.TheVariants.{Tick}
use Rattle.stored_calls.specs.Lists.{nobodys}
use Rattle.segment_rings.specs.declared.words.Submission.{Submission}
use Rattle.live_record.specs.Record.{accepted, sent_in, is_by}
use Rattle.live_record.proofs.Prefixes.{accepted_more, accepted_prefix, accepted_same}
use Rattle.live_record.proofs.compare.accepted_begin.Goals as goal

pub loop-at-preserved-in_default : goal.loop-at-preserved-in_default
loop-at-preserved-in_default c =
    let xs = c.args.calls.now.items in
    let i = c.loop-at.at in
    let l : i < length xs = omega arith in
    let same = accepted_same c.args.client xs i (nobodys (Tick 0)) l (c.in_default.ensures.brief (nobodys (Tick 0))).by in
    record { within = c.loop-at.invariant.within; same = c.loop-at.invariant.same ∙ sym same }

pub returns-in_default-next_matches : goal.returns-in_default-next_matches
returns-in_default-next_matches c =
    let k = c.args.client in
    let xs = c.args.calls.now.items in
    let ys = c.args.submitted.now in
    let i = c.loop-at.at in
    let x = c.in-Some.stored.now in
    let l : i < length xs = omega arith in
    let more = accepted_more k xs i x l (c.in-Some.ensures.whole x) in
    let e : accepted k (take (i + 1) xs) ≡ take c.loop-at.n ys ++ sent_in (is_by k x.by) x.call = more ∙ ap (λ (u : List Submission). u ++ sent_in (is_by k x.by) x.call) (sym c.loop-at.invariant.same) in
    let no : IsPrefix (accepted k xs) ys → ⊥ = λ p. c.in_default-next_matches.ensures (subst (λ (u : List Submission). IsPrefix u ys) e (accepted_prefix k xs (i + 1) ys p)) in
    (λ (t : false ≡ true). absurd cc, λ p. absurd (no p))

pub loop-at-preserved : goal.loop-at-preserved
loop-at-preserved c =
    let k = c.args.client in
    let xs = c.args.calls.now.items in
    let i = c.loop-at.at in
    let x = c.in-Some.stored.now in
    let l : i < length xs = omega arith in
    let more = accepted_more k xs i x l (c.in-Some.ensures.whole x) in
    record {
      within = c.in-Some-next_matches.ensures.0;
      same = c.in-Some-next_matches.ensures.1 ∙ ap (λ (u : List Submission). u ++ sent_in (is_by k x.by) x.call) c.loop-at.invariant.same ∙ sym more;
    }

pub returns : goal.returns
returns c =
    let k = c.args.client in
    let xs = c.args.calls.now.items in
    let ys = c.args.submitted.now in
    let i = c.loop-at.at in
    let n = c.loop-at.n in
    let all : take i xs ≡ xs = take_all i xs (omega arith) in
    let same : accepted k xs ≡ take n ys = ap (accepted k) (sym all) ∙ sym c.loop-at.invariant.same in
    (λ _. (drop n ys, ap (λ (u : List Submission). u ++ drop n ys) same ∙ take-append-drop n ys), λ _. refl)
