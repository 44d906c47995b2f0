use Rattle.std.proofs.Common.{◌∙◌, sym}
use Rattle.segment_drain.proofs.Lowests.{lowest_is}
use Rattle.segment_drain.proofs.finding.lowest.Goals as goal

pub returns-then-can : goal.returns-then-can
returns-then-can c = lowest_is c.args.segment.now c.args.kind c.loop-address.address c.loop-address.invariant (sym c.can.ensures ∙ c.if-can.true) c.loop-address-test.true
