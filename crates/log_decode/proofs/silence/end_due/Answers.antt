use Rattle.log_decode.proofs.Due.{none_yet}
use Rattle.log_decode.proofs.silence.end_due.Goals as goal

pub returns-then-now-due-clause-told : goal.returns-then-now-due-clause-told
returns-then-now-due-clause-told c = none_yet c.args.now c.args.due c.args.sessions.now.entries c.args.told.now.items c.if-now-due.true c.requires

pub returns-then-now-due-clause-next : goal.returns-then-now-due-clause-next
returns-then-now-due-clause-next c = c.requires
