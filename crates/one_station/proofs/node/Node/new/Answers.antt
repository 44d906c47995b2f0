use Rattle.std.proofs.Common.{[]}
use Rattle.one_station.proofs.Resting.{rests_at_first}
use Rattle.one_station.proofs.node.Node.new.Goals as goal

pub invariant_of-result : goal.invariant_of-result
invariant_of-result c = record {
  stood = ([], c.in_ok-segment.ensures.stands);
  looked = rests_at_first c.args.address c.in_ok-segment.segment c.in_ok-segment.ensures.ok;
}
