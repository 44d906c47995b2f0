use Rattle.std.proofs.Common.{arith, rules}
use Rattle.live_record.proofs.Prefixes.{begins_from}
use Rattle.live_record.proofs.compare.notes_begin.Goals as goal

pub returns : goal.returns
returns c = (λ _. begins_from c.args.first.now c.args.second.now c.loop-i.i (omega arith) c.loop-i.invariant, λ _. search rules)
