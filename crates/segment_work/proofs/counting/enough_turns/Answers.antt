use Rattle.segment_drain.specs.Enough.{calls_left, enough_turns}
use Rattle.segment_work.proofs.Cuts.{uncut}
use Rattle.std.proofs.Common.{◌*◌}
use Rattle.segment_work.proofs.counting.enough_turns.Goals as goal

pub returns-clause-value : goal.returns-clause-value
returns-clause-value c = c.plus.ensures (2 * calls_left c.args.segment.now) 2 (c.times.ensures 2 (calls_left c.args.segment.now) c.exact.ensures c.work.ensures) c.exact-2.ensures

pub returns-clause-enough : goal.returns-clause-enough
returns-clause-enough c = uncut (enough_turns c.args.segment.now) c.plus.result (returns-clause-value c)
