use Rattle.std.proofs.Common.{sym}
use Rattle.line_runs.proofs.Above.{read_as}
use Rattle.script_runs.proofs.ScriptsRead.{at_end, at_wrong_end, at_no_line, at_error, at_line}
use Rattle.script_runs.proofs.reading.read_script.Goals as goal

pub returns-in-None : goal.returns-in-None
returns-in-None g c =
    let line = c.next_line.new.line.items in
    let read = read_as _ _ _ _ line _ _ c.in-Ok-false.field-0-test c.in-Ok-false.ensures.read in
    at_end _ g.S.Planner.lines _ _ _ _ line (g.S.Planner.state c.lines.planner) _ c.lines.invariant.read read (sym c.in-None.ensures)

pub returns-in-Some : goal.returns-in-Some
returns-in-Some g c =
    let line = c.next_line.new.line.items in
    let read = read_as _ _ _ _ line _ _ c.in-Ok-false.field-0-test c.in-Ok-false.ensures.read in
    rw c.fault_at.ensures (at_wrong_end _ g.S.Planner.lines _ _ _ _ line (g.S.Planner.state c.lines.planner) _ _ c.lines.invariant.read read (sym c.in-Some.ensures))

pub returns-in-Err : goal.returns-in-Err
returns-in-Err g c =
    let line = c.next_line.new.line.items in
    rw c.fault_at-in-Err.ensures (at_no_line _ g.S.Planner.lines c.lines.invariant.grows _ _ _ _ line (g.S.Planner.state c.lines.planner) _ c.in-Err.cause _ c.of_script-limits.ensures c.lines.invariant.read c.in-Err.ensures.read)

pub returns-in-Err-obey_line : goal.returns-in-Err-obey_line
returns-in-Err-obey_line g c =
    let line = c.next_line.new.line.items in
    let read = rw c.of_script-limits.ensures at (read_as _ _ _ _ line _ _ c.in-Ok-true.field-0-test c.in-Ok-true.ensures.read) in
    rw (c.fault_at-in-Err-obey_line.ensures, c.cause_of.ensures) (at_error _ g.S.Planner.lines c.lines.invariant.grows _ _ _ _ line (g.S.Planner.state c.lines.planner) (g.S.Planner.state c.obey_line.new.self) _ c.in-Err-obey_line.error c.lines.invariant.read read
    (rw c.as_slice.ensures.value at c.in-Err-obey_line.ensures))

pub lines-preserved : goal.lines-preserved
lines-preserved g c =
    let line = c.next_line.new.line.items in
    let read = rw c.of_script-limits.ensures at (read_as _ _ _ _ line _ _ c.in-Ok-true.field-0-test c.in-Ok-true.ensures.read) in
    let done = rw c.as_slice.ensures.value at c.in-Ok.ensures in
    record {
      read = at_line _ g.S.Planner.lines _ _ _ _ line (g.S.Planner.state c.lines.planner) (g.S.Planner.state c.obey_line.new.self) _ c.lines.invariant.read read done;
      room = c.lines.invariant.after _ _ line _ c.lines.invariant.room done;
      grows = c.lines.invariant.grows;
      after = c.lines.invariant.after;
      before = c.lines.invariant.before;
    }
