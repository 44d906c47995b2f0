use Rattle.bus_order.proofs.Order.{holds_last, sees_in_order}
use Rattle.bus_order.proofs.laws.stations_see_the_bus_in_order.Goals as goal

pub returns-clause-kept : goal.returns-clause-kept
returns-clause-kept c = holds_last

pub returns-clause-seen : goal.returns-clause-seen
returns-clause-seen c = sees_in_order
