use Rattle.std.proofs.Common.{rules, ◌≡◌, ◌<◌, ◌+◌, ◌-◌, ◌==◌, ◌++◌, ◌∷◌, [], None, Some, true, false, suc, sym, ◌∙◌, ap, length, take, arith}
use Rattle.std.proofs.lemmas.List.{take_more_set}
use Rattle.log_fields.specs.Fields.{next_word}
use Rattle.log_text.specs.Screen.{byte_of, bytes_in}
use Rattle.log_text.proofs.Pairs.{with_front, word_read, word_bad, words_over, words_end, made_none, made_some}
use Rattle.log_text.proofs.screen.bytes.Goals as goal

pub returns-in_err-kept : goal.returns-in_err-kept
returns-in_err-kept c =
    let r : c.from_residual.result ≡ None = search rules in
    let t = c.loop-at-test.true in
    let l : c.args.count - c.loop-at.at ≡ suc (c.args.count - (c.loop-at.at + 1)) = omega (arith, t) in
    let b : byte_of c.next_word.result.0.now ≡ None = search rules in
    let e : byte_of (next_word c.loop-at.rest.now).0 ≡ None = ap (λ p. byte_of p.0) (sym c.next_word.ensures) ∙ b in
    r ∙ sym (made_none c.args.id _ (word_bad (take c.loop-at.at c.loop-at.kept) _ _ c.loop-at.rest.now _ l e c.loop-at.invariant.read))

pub loop-at-preserved : goal.loop-at-preserved
loop-at-preserved c =
    let t = c.loop-at-test.true in
    let w = c.loop-at.invariant.whole in
    let m = c.requires in
    let l : c.args.count - c.loop-at.at ≡ suc (c.args.count - (c.loop-at.at + 1)) = omega (arith, t) in
    let room : c.loop-at.at < length c.loop-at.kept = omega (arith, t, w, m) in
    let b : byte_of c.next_word.result.0.now ≡ Some c.in_ok-kept.field-0 = search rules in
    let e : byte_of (next_word c.loop-at.rest.now).0 ≡ Some c.in_ok-kept.field-0 = ap (λ p. byte_of p.0) (sym c.next_word.ensures) ∙ b in
    record {
      whole = search rules;
      read = rw (take_more_set c.loop-at.kept c.loop-at.at c.in_ok-kept.field-0 room)
          (ap (λ p. with_front (take c.loop-at.at c.loop-at.kept ++ c.in_ok-kept.field-0 ∷ []) (bytes_in (c.args.count - (c.loop-at.at + 1)) p.1)) c.next_word.ensures
          ∙ word_read _ _ _ c.loop-at.rest.now _ _ l e c.loop-at.invariant.read);
    }

pub returns-then-not-is_empty : goal.returns-then-not-is_empty
returns-then-not-is_empty c =
    let t = c.loop-at-test.false in
    let z : c.args.count - c.loop-at.at ≡ 0 = omega (arith, t) in
    let b : (length c.next_word-2.result.0.now == 0) ≡ false = search rules in
    let e : (length (next_word c.loop-at.rest.now).0 == 0) ≡ false = ap (λ p. length p.0 == 0) (sym c.next_word-2.ensures) ∙ b in
    sym (made_none c.args.id _ (words_over _ _ c.loop-at.rest.now _ z e c.loop-at.invariant.read))

pub returns : goal.returns
returns c =
    let t = c.loop-at-test.false in
    let z : c.args.count - c.loop-at.at ≡ 0 = omega (arith, t) in
    let b : (length c.next_word-2.result.0.now == 0) ≡ true = search rules in
    let e : (length (next_word c.loop-at.rest.now).0 == 0) ≡ true = ap (λ p. length p.0 == 0) (sym c.next_word-2.ensures) ∙ b in
    let r : c.ok.result ≡ Some record { id = c.args.id; bytes = take c.args.count c.loop-at.kept } = search rules in
    let k : take c.loop-at.at c.loop-at.kept ≡ take c.args.count c.loop-at.kept = let a = c.loop-at.auto.at-end in ap (λ n. take n c.loop-at.kept) (omega (arith, t, a)) in
    r ∙ sym (made_some c.args.id _ _ (words_end _ _ c.loop-at.rest.now _ z e c.loop-at.invariant.read ∙ ap Some k))
