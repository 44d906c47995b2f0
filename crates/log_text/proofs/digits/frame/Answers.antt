use Rattle.std.proofs.Common.{rules, ◌≡◌, ◌<◌, None, Some, sym, ◌∙◌, ap, length, take, arith}
use Rattle.std.proofs.lemmas.List.{take_more_set}
use Rattle.log_text.proofs.Pairs.{pair_read, pair_odd, pair_bad, pairs_end, frame_none, frame_some}
use Rattle.log_text.proofs.digits.frame.Goals as goal

pub returns-in_err-second : goal.returns-in_err-second
returns-in_err-second c =
    let r : c.from_residual.result ≡ None = search rules in
    r ∙ sym (frame_none c.args.id c.args.digits.now c.if-digits-gt-MOST_DIGITS.false (pair_odd _ _ _ _ _ c.in-Some.ensures.cases.0 c.in_err-second.ensures.cases c.loop-first.invariant.read))

pub returns-in_err-kept : goal.returns-in_err-kept
returns-in_err-kept c =
    let r : c.from_residual-in_err-kept.result ≡ None = search rules in
    r ∙ sym (frame_none c.args.id c.args.digits.now c.if-digits-gt-MOST_DIGITS.false (pair_bad _ _ _ _ _ _ _ c.in-Some.ensures.cases.0 c.in_ok-second.ensures.cases.0 (search rules) c.loop-first.invariant.read))

pub loop-first-preserved : goal.loop-first-preserved
loop-first-preserved c =
    let l = ap length c.in-Some.ensures.cases.0 in
    let m = ap length c.in_ok-second.ensures.cases.0 in
    let room : c.loop-first.len < length c.loop-first.kept = omega (arith, l, m, c.loop-first.invariant.so_far, c.loop-first.invariant.whole, c.if-digits-gt-MOST_DIGITS.false) in
    record {
      whole = search rules;
      so_far = omega (arith, l, m, c.loop-first.invariant.so_far);
      read = rw (take_more_set c.loop-first.kept c.loop-first.len c.in_ok-kept.field-0 room) (pair_read _ _ _ _ _ _ _ _ c.in-Some.ensures.cases.0 c.in_ok-second.ensures.cases.0 (search rules) c.loop-first.invariant.read);
    }

pub returns : goal.returns
returns c =
    let r : c.ok.result ≡ Some record { id = c.args.id; bytes = take c.loop-first.len c.loop-first.kept } = search rules in
    r ∙ sym (frame_some c.args.id c.args.digits.now _ c.if-digits-gt-MOST_DIGITS.false (pairs_end _ _ _ c.in_default.ensures.cases c.loop-first.invariant.read))
