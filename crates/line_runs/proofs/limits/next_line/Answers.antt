use Rattle.line_runs.proofs.Above.{too_long, too_many, reads_as}
use Rattle.line_runs.proofs.limits.next_line.Goals as goal

pub returns-in-Ok-TooLong-clause-read : goal.returns-in-Ok-TooLong-clause-read
returns-in-Ok-TooLong-clause-read g c =
    let line = c.read_line_up_to.new.line.items in
    rw c.limit_fault.ensures (too_long c.args.limits.now _ _ _ line (reads_as _ _ _ _ _ line c.in-Ok-TooLong.field-0-is c.in-Ok-TooLong.ensures.reads))

pub returns-then-number-limits-clause-read : goal.returns-then-number-limits-clause-read
returns-then-number-limits-clause-read g c =
    let line = c.read_line_up_to.new.line.items in
    too_many c.args.limits.now _ _ _ line (reads_as _ _ _ _ _ line c.in-Ok-Line.field-0-is c.in-Ok-Line.ensures.reads) c.if-number-limits.true
