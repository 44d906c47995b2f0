use Rattle.std.proofs.Common.{◌≡◌}
use Rattle.bus_order.specs.Abreast.{passed_first}
use Rattle.bus_order.proofs.log.BusLog.pass_first.Given as goal

abbrev pub invariant-loop-cursor : goal.invariant-loop-cursor
invariant-loop-cursor l = l.self ≡ passed_first l.cursor l.fn.self
