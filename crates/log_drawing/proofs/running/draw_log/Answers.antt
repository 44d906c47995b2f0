use Rattle.std.proofs.Common.{refl, sym, ◌∙◌, true, false, Err}
use Rattle.log_drawing.specs.Picture.{line_seen}
use Rattle.log_drawing.proofs.RunSteps.{ended_all, at_end, at_no_line, at_failure, at_write, at_next, at_wrong, reads, reads_as, was_seen}
use Rattle.log_drawing.proofs.running.draw_log.Goals as goal

pub returns-in-Ok-false : goal.returns-in-Ok-false
returns-in-Ok-false g c =
    let line = c.next_line.new.line.items in
    let rb = g.R.Read.remaining c.lines.reader in
    let rc = g.R.Read.remaining c.next_line.new.reader in
    let read = reads_as _ c.lines.number c.in-Ok-false.field-0 false line rb rc c.of_log-limits.ensures c.in-Ok-false.field-0-test c.in-Ok-false.ensures.read in
    ended_all _ _ rb _ _ _ _ _ _ _ _ _ c.lines.invariant (at_end _ rb rc line _ _ _ _ _ _ read c.end_run.ensures.text c.end_run.ensures.told)

pub returns-in-Err : goal.returns-in-Err
returns-in-Err g c =
    let line = c.next_line.new.line.items in
    let rb = g.R.Read.remaining c.lines.reader in
    let rc = g.R.Read.remaining c.next_line.new.reader in
    let read = reads _ c.lines.number (Err c.in-Err.cause) line rb rc c.of_log-limits.ensures c.in-Err.ensures.read in
    ended_all _ _ rb _ _ _ _ _ _ _ _ _ c.lines.invariant (at_no_line _ rb rc line _ _ _ _ _ _ c.in-Err.cause read c.stop.ensures)

pub returns-in_default : goal.returns-in_default
returns-in_default g c = rw c.failed.ensures (ended_all _ _ _ _ _ _ _ _ _ _ _ _ c.lines.invariant (at_failure _ _ _ _ _ _ _ refl))

pub returns-in_default-tell_both : goal.returns-in_default-tell_both
returns-in_default-tell_both g c =
    let line = c.next_line.new.line.items in
    let rb = g.R.Read.remaining c.lines.reader in
    let rc = g.R.Read.remaining c.next_line.new.reader in
    let read = reads_as _ c.lines.number c.in-Ok-true.field-0 true line rb rc c.of_log-limits.ensures c.in-Ok-true.field-0-test c.in-Ok-true.ensures.read in
    let seen = was_seen (line_seen c.args.options.now c.lines.picture c.lines.number line) c.take_line.new.self c.take_line.new.out.items c.take_line.new.told.items
    (rw c.as_slice.ensures.value at c.in-Ok.ensures.left) (rw c.clear.ensures.items at (rw c.as_slice.ensures.value at c.in-Ok.ensures.text)) (rw c.clear-in-lines.ensures.items at (rw c.as_slice.ensures.value at c.in-Ok.ensures.errors)) in
    rw c.failed-in_default-tell_both.ensures (ended_all _ _ rb _ _ _ _ _ _ _ _ _ c.lines.invariant
    (at_write _ rb rc line _ _ _ _ _ _ _ _ read seen refl (rw c.as_slice-in-lines.ensures.value at c.in_default-tell_both.ensures.text) (rw c.as_slice-in-lines-2.ensures.value at c.in_default-tell_both.ensures.errors)))

pub returns-then-is_ended : goal.returns-then-is_ended
returns-then-is_ended g c =
    let line = c.next_line.new.line.items in
    let rb = g.R.Read.remaining c.lines.reader in
    let rc = g.R.Read.remaining c.next_line.new.reader in
    let read = reads_as _ c.lines.number c.in-Ok-true.field-0 true line rb rc c.of_log-limits.ensures c.in-Ok-true.field-0-test c.in-Ok-true.ensures.read in
    let seen = was_seen (line_seen c.args.options.now c.lines.picture c.lines.number line) c.take_line.new.self c.take_line.new.out.items c.take_line.new.told.items
    (rw c.as_slice.ensures.value at c.in-Ok.ensures.left) (rw c.clear.ensures.items at (rw c.as_slice.ensures.value at c.in-Ok.ensures.text)) (rw c.clear-in-lines.ensures.items at (rw c.as_slice.ensures.value at c.in-Ok.ensures.errors)) in
    ended_all _ _ rb _ _ _ _ _ _ _ _ _ c.lines.invariant
    (at_wrong _ rb rc line _ _ _ _ _ _ _ _ _ read seen (sym c.is_ended.ensures ∙ c.if-is_ended.true) (rw c.as_slice-in-lines.ensures.value at c.in-Ok-tell_both.ensures.text) (rw c.as_slice-in-lines-2.ensures.value at c.in-Ok-tell_both.ensures.errors)
    c.end_run-then-is_ended.ensures.text c.end_run-then-is_ended.ensures.told)

pub lines-preserved : goal.lines-preserved
lines-preserved g c =
    let line = c.next_line.new.line.items in
    let rb = g.R.Read.remaining c.lines.reader in
    let rc = g.R.Read.remaining c.next_line.new.reader in
    let read = reads_as _ c.lines.number c.in-Ok-true.field-0 true line rb rc c.of_log-limits.ensures c.in-Ok-true.field-0-test c.in-Ok-true.ensures.read in
    let seen = was_seen (line_seen c.args.options.now c.lines.picture c.lines.number line) c.take_line.new.self c.take_line.new.out.items c.take_line.new.told.items
    (rw c.as_slice.ensures.value at c.in-Ok.ensures.left) (rw c.clear.ensures.items at (rw c.as_slice.ensures.value at c.in-Ok.ensures.text)) (rw c.clear-in-lines.ensures.items at (rw c.as_slice.ensures.value at c.in-Ok.ensures.errors)) in
    at_next _ _ rb rc line _ _ _ _ _ _ _ _ _ c.lines.invariant read seen (sym c.is_ended.ensures ∙ c.if-is_ended.false)
    (rw c.as_slice-in-lines.ensures.value at c.in-Ok-tell_both.ensures.text) (rw c.as_slice-in-lines-2.ensures.value at c.in-Ok-tell_both.ensures.errors)
