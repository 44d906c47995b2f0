use Rattle.std.proofs.Common.{◌≡◌}
use Rattle.segment_drain.specs.Chosen.{most_waiting}
use Rattle.segment_drain.proofs.finding.most_waiting.Given as goal

abbrev pub invariant-loop-address : goal.invariant-loop-address
invariant-loop-address l = l.most ≡ most_waiting l.fn.segment l.address
