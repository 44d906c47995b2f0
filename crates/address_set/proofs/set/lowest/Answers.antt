use Rattle.address_set.proofs.Bits.{none_is_lowest, lowest_is}
use Rattle.address_set.proofs.set.lowest.Goals as goal

pub returns-then-rest-eq0 : goal.returns-then-rest-eq0
returns-then-rest-eq0 c at le below = none_is_lowest c.args.word c.args.from c.if-rest-eq0.true at le

pub returns : goal.returns
returns c = lowest_is c.args.word c.args.from (c.ranges.word).fits c.if-rest-eq0.false
