use Rattle.std.proofs.Common.{refl, sym, subst, take}
use Rattle.std.specs.Io.BufRead.{FillKeeps}
use Rattle.text_lines.specs.Lines.{held_line}
use Rattle.line_runs.proofs.Above.{read_held}
use Rattle.line_runs.proofs.Written.{keeps_same}
use Rattle.line_runs.proofs.RunSteps.{unread, line_taken}
use Rattle.line_runs.proofs.taking.take_held.Goals as goal

pub returns-else-eq-clause-taken : goal.returns-else-eq-clause-taken
returns-else-eq-clause-taken g c =
    let left = g.R.Read.remaining c.args.reader.now in
    (unread _ g.O.Obeyer.kept c.args.limits.now g.O.Obeyer.in_text _ c.args.run.now _ left _, unread _ g.O.Obeyer.kept c.args.limits.now g.O.Obeyer.in_log _ c.args.run.now _ left _)

pub returns-clause-taken : goal.returns-clause-taken
returns-clause-taken g c =
    let rested = c.fill_buf.follows.lender-at-none in
    let filled = subst (FillKeeps _ (g.R.Read.remaining rested) (g.R.BufRead.consumable_len rested)) c.in-Ok.is c.fill_buf.follows.holds-at-none in
    let held = c.in-Ok.held.now in
    let few = c.if-run-limits.false in
    let reads = read_held c.args.limits.now _ _ _ _ _ held c.in-Some.len few (sym {b = held_line c.args.limits.now.bytes held} c.in-Some.ensures) c.in-Ok.ensures.front c.in-Ok.ensures.end filled c.consume.ensures.bytes in
    let obeyed = c.obey-obeyed.ensures in
    let flushed = c.flush_after.ensures in
    let run = record c.obey-obeyed.new.run { is_flushed = c.flush_after.new.is_flushed } in (
      line_taken _ g.O.Obeyer.kept c.args.limits.now g.O.Obeyer.in_text _ _ _ _ c.args.run.now c.obey-obeyed.new.run run (take c.in-Some.len held) _ _ _ _ _ (refl, refl) few reads obeyed.in_text flushed.result flushed.kept,
      line_taken _ g.O.Obeyer.kept c.args.limits.now g.O.Obeyer.in_log _ _ _ _ c.args.run.now c.obey-obeyed.new.run run (take c.in-Some.len held) _ _ _ _ _ (refl, refl) few reads obeyed.in_log flushed.result (keeps_same _),
    )
