use Rattle.std.proofs.Common.{arith}
use Rattle.line_runs.proofs.Written.{keeps_same}
use Rattle.line_runs.proofs.RunSteps.{at_end, next_as, ended_all, left_all}
use Rattle.line_runs.proofs.running.run_lines.Goals as goal

pub lines-smaller : goal.lines-smaller
lines-smaller g c =
    let taken = rw c.in-Ok-true.field-0-test at c.in-Ok-true.ensures.in_text in
    omega (arith, taken.0, taken.1, c.requires)

pub returns-in-Ok-false-clause-in_text : goal.returns-in-Ok-false-clause-in_text
returns-in-Ok-false-clause-in_text g c = ended_all _ g.O.Obeyer.kept c.args.limits.now g.O.Obeyer.in_text _ _ _ _ _ _ (at_end _ g.O.Obeyer.kept c.args.limits.now g.O.Obeyer.in_text _ _ _ c.lines.run c.take_next.new.run _ _ (g.R.Read.remaining c.take_next.new.reader) _ _ _ _ c.lines.invariant.text
    (next_as _ g.O.Obeyer.kept c.args.limits.now g.O.Obeyer.in_text _ _ _ _ _ _ _ _ _ _ c.in-Ok-false.field-0-test c.in-Ok-false.ensures.in_text) c.in-Ok.ensures.kept)

pub returns-in-Ok-false-clause-in_log : goal.returns-in-Ok-false-clause-in_log
returns-in-Ok-false-clause-in_log g c = ended_all _ g.O.Obeyer.kept c.args.limits.now g.O.Obeyer.in_log _ _ _ _ _ _ (at_end _ g.O.Obeyer.kept c.args.limits.now g.O.Obeyer.in_log _ _ _ c.lines.run c.take_next.new.run _ _ (g.R.Read.remaining c.take_next.new.reader) _ _ _ _ c.lines.invariant.log
    (next_as _ g.O.Obeyer.kept c.args.limits.now g.O.Obeyer.in_log _ _ _ _ _ _ _ _ _ _ c.in-Ok-false.field-0-test c.in-Ok-false.ensures.in_log) (keeps_same _))

pub returns-in-Ok-false-clause-left : goal.returns-in-Ok-false-clause-left
returns-in-Ok-false-clause-left g c = left_all _ g.O.Obeyer.kept c.args.limits.now g.O.Obeyer.in_text _ _ _ _ _ _ (at_end _ g.O.Obeyer.kept c.args.limits.now g.O.Obeyer.in_text _ _ _ c.lines.run c.take_next.new.run _ _ (g.R.Read.remaining c.take_next.new.reader) _ _ _ _ c.lines.invariant.text
    (next_as _ g.O.Obeyer.kept c.args.limits.now g.O.Obeyer.in_text _ _ _ _ _ _ _ _ _ _ c.in-Ok-false.field-0-test c.in-Ok-false.ensures.in_text) c.in-Ok.ensures.kept)
