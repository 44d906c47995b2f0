use Rattle.std.proofs.Common.{sym}
use Rattle.bus_node.proofs.Dues.{due_is_below, due_is_above}
use Rattle.bus_node.proofs.time.due_up_to.Goals as goal

pub returns-then-tick-last : goal.returns-then-tick-last
returns-then-tick-last c = sym (due_is_above c.args.station.now.segment _ _ c.in-Some.ensures c.if-tick-last.true (c.ranges.last).fits)

pub returns-else-tick-last : goal.returns-else-tick-last
returns-else-tick-last c = sym (due_is_below c.args.station.now.segment _ _ c.in-Some.ensures c.if-tick-last.false (c.ranges.last).fits)
