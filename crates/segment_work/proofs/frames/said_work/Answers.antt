use Rattle.std.proofs.Common.{ℕ, ap, sym, ◌∙◌, arith}
use Rattle.record_law.specs.Counting.{up_to_last}
use Rattle.work_law.specs.Work.{Terms, sum_below}
use Rattle.segment_work.specs.Terms.{turn_terms}
use Rattle.segment_work.proofs.Sums.{below_next}
use Rattle.segment_work.proofs.Said.{told_at, said_is}
use Rattle.segment_work.proofs.frames.said_work.Goals as goal

pub loop-i-preserved : goal.loop-i-preserved
loop-i-preserved c = λ w e.
    let told : ℕ → ℕ = told_at (turn_terms c.args.segment.now) w c.args.from.0 c.args.to.0 in
    c.plus-total.ensures (sum_below told c.loop-i.i) (told c.loop-i.i) (c.loop-i.invariant w e) (c.told_work-told.ensures w e)
    ∙ ap up_to_last (sym (below_next told c.loop-i.i))

pub returns : goal.returns
returns c = λ w e.
    let terms : Terms = turn_terms c.args.segment.now in
    let told : ℕ → ℕ = told_at terms w c.args.from.0 c.args.to.0 in
    c.plus.ensures terms.rates.put (sum_below told c.loop-i.i) (c.each.ensures.put c.args.segment.now) (c.loop-i.invariant w e)
    ∙ ap up_to_last (sym (said_is terms w c.args.from.0 c.args.to.0 c.loop-i.i (omega (arith, c.loop-i-test.false, c.loop-i.auto.i-end, c.takers-i-end.ensures))))
