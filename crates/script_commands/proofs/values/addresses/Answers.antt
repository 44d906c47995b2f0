use Rattle.std.proofs.Common.{refl, arith, ◌<◌, length}
use Rattle.std.proofs.lemmas.Result.{err_from_is_err_and}
use Rattle.script_commands.proofs.Steps.{address_read, address_fails, addresses_end, texts_at, texts_end}
use Rattle.script_commands.proofs.values.addresses.Goals as goal

pub returns-in_err-address : goal.returns-in_err-address
returns-in_err-address c =
    let p = err_from_is_err_and c.from_residual.result c.from_residual.ensures.1 in
    let h : c.loop-word.word-index < length c.args.words.now = omega arith in
    rw (p.1, p.2) (address_fails _ _ _ _ _ _ (texts_at c.args.words.now c.loop-word.word-index _ refl h) c.in_err-address.ensures c.loop-word.invariant)

pub loop-word-preserved : goal.loop-word-preserved
loop-word-preserved c =
    let h : c.loop-word.word-index < length c.args.words.now = omega arith in
    rw c.in_ok-push.ensures (address_read _ _ _ _ _ _ (texts_at c.args.words.now c.loop-word.word-index _ refl h) c.in_ok-address.ensures c.loop-word.invariant)

pub returns : goal.returns
returns c = addresses_end _ _ _ (texts_end c.args.words.now c.loop-word.word-index c.loop-word-test.false) c.loop-word.invariant
