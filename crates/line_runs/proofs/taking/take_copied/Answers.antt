use Rattle.std.proofs.Common.{refl}
use Rattle.line_runs.proofs.Above.{read_as}
use Rattle.line_runs.proofs.Written.{keeps_same}
use Rattle.line_runs.proofs.RunSteps.{not_read, line_taken}
use Rattle.line_runs.proofs.taking.take_copied.Goals as goal

pub returns-in-Err-clause-taken : goal.returns-in-Err-clause-taken
returns-in-Err-clause-taken g c =
    let line = c.next_line.new.line.items in
    let reads = c.in-Err.ensures.read in
    (not_read _ g.O.Obeyer.kept c.args.limits.now g.O.Obeyer.in_text _ c.args.run.now line c.in-Err.cause _ _ _ reads, not_read _ g.O.Obeyer.kept c.args.limits.now g.O.Obeyer.in_log _ c.args.run.now line c.in-Err.cause _ _ _ reads)

pub returns-clause-taken : goal.returns-clause-taken
returns-clause-taken g c =
    let line = c.next_line.new.line.items in
    let few = c.in-Ok-true.ensures.few c.in-Ok-true.field-0-test in
    let reads = read_as _ _ _ _ line _ _ c.in-Ok-true.field-0-test c.in-Ok-true.ensures.read in
    let obeyed = rw c.as_slice.ensures.value at c.obey-obeyed.ensures in
    let flushed = c.flush_after.ensures in
    let run = record c.obey-obeyed.new.run { is_flushed = c.flush_after.new.is_flushed } in (
      line_taken _ g.O.Obeyer.kept c.args.limits.now g.O.Obeyer.in_text _ _ _ _ c.args.run.now c.obey-obeyed.new.run run line _ _ _ _ _ (refl, refl) few reads obeyed.in_text flushed.result flushed.kept,
      line_taken _ g.O.Obeyer.kept c.args.limits.now g.O.Obeyer.in_log _ _ _ _ c.args.run.now c.obey-obeyed.new.run run line _ _ _ _ _ (refl, refl) few reads obeyed.in_log flushed.result (keeps_same _),
    )
