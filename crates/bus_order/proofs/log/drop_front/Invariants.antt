use Rattle.std.proofs.Common.{◌≡◌, drop}
use Rattle.std.specs.VecDeque.{deque_capacity}
use Rattle.bus_order.proofs.log.drop_front.Given as goal

abbrev pub invariant-loop : goal.invariant-loop
invariant-loop l = (l.kept.items ≡ drop l.counter l.fn.kept.items) × (deque_capacity l.kept ≡ deque_capacity l.fn.kept)
