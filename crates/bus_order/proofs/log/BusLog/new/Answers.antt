use Rattle.std.proofs.Common.{◌≡◌, replicate, arith}
use Rattle.bus_order.specs.Bus.{start}
use Rattle.bus_order.proofs.Steps.{sound_new}
use Rattle.bus_order.proofs.Cursors.{rear_new}
use Rattle.bus_order.proofs.log.BusLog.new.Goals as goal

pub invariant_of-result : goal.invariant_of-result
invariant_of-result c =
    let cursors : c.in_ok-vec.field-0.items ≡ replicate c.args.stations start = c.in_ok-vec.ensures.items_if_clones_equal (λ y e. e) in
    record {
      sound = rw (c.in_ok-with_capacity.ensures.items, cursors) (sound_new c.args.stations);
      rear = rw cursors (rear_new c.args.stations);
      room = omega (arith, c.in_ok-with_capacity.ensures.capacity);
    }
