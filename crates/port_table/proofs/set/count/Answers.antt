use Rattle.std.proofs.Common.{sym, arith}
use Rattle.port_table.proofs.Sets.{first_zero, no_zero}
use Rattle.port_table.proofs.set.count.Goals as goal

pub returns-then-kept-place-eq0 : goal.returns-then-kept-place-eq0
returns-then-kept-place-eq0 c =
    sym (first_zero c.args.kept.now c.loop-place.place (omega (arith, c.loop-place-test.true)) c.loop-place.invariant c.if-kept-place-eq0.true)

pub returns : goal.returns
returns c = sym (no_zero c.args.kept.now (λ k within. c.loop-place.invariant k (omega (arith, within, c.loop-place-test.false))))
