use Rattle.line_runs.proofs.Written.{keeps_same}
use Rattle.line_runs.proofs.RunSteps.{next_unwritten, next_taken}
use Rattle.line_runs.proofs.taking.take_next.Goals as goal

pub returns-in_default-clause-in_text : goal.returns-in_default-clause-in_text
returns-in_default-clause-in_text g c =
    next_unwritten _ g.O.Obeyer.kept c.args.limits.now g.O.Obeyer.in_text _ _ c.args.run.now c.take_held.new.run _ _ _ _ _ c.in-None.ensures.taken.0 c.in-None.ensures.taken.1 c.in_default.ensures.kept

pub returns-clause-in_text : goal.returns-clause-in_text
returns-clause-in_text g c =
    let flushed = record c.take_held.new.run { is_flushed = c.flush_told.new.is_flushed } in
    next_taken _ g.O.Obeyer.kept c.args.limits.now g.O.Obeyer.in_text _ _ _ c.args.run.now flushed c.take_copied.new.run _ _ _ _ _ _ _ _ c.in-None.ensures.taken.0 c.in-None.ensures.taken.1 c.in-Ok.ensures.kept c.take_copied.ensures.taken.0

pub returns-in_default-clause-in_log : goal.returns-in_default-clause-in_log
returns-in_default-clause-in_log g c =
    next_unwritten _ g.O.Obeyer.kept c.args.limits.now g.O.Obeyer.in_log _ _ c.args.run.now c.take_held.new.run _ _ _ _ _ c.in-None.ensures.taken.0 c.in-None.ensures.taken.2 (keeps_same _)

pub returns-clause-in_log : goal.returns-clause-in_log
returns-clause-in_log g c =
    let flushed = record c.take_held.new.run { is_flushed = c.flush_told.new.is_flushed } in
    next_taken _ g.O.Obeyer.kept c.args.limits.now g.O.Obeyer.in_log _ _ _ c.args.run.now flushed c.take_copied.new.run _ _ _ _ _ _ _ _ c.in-None.ensures.taken.0 c.in-None.ensures.taken.2 (keeps_same _) c.take_copied.ensures.taken.1
