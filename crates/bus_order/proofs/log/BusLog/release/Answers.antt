use Rattle.std.proofs.Common.{◌≡◌, max, arith}
use Rattle.bus_order.specs.Bus.{lowest}
use Rattle.bus_order.specs.Kept.{IsSound}
use Rattle.bus_order.specs.LogFields.{log_value}
use Rattle.bus_order.proofs.Steps.{sound_released, sound_holds}
use Rattle.bus_order.proofs.log.BusLog.release.Goals as goal

pub returns-clause-holds : goal.returns-clause-holds
returns-clause-holds c =
    let s : IsSound (log_value c.self.inside) = c.self.invariant.sound in
    let e : c.self.inside.rear.place ≡ max 1 (lowest c.self.inside.cursors.items) = omega (arith, c.self.invariant.rear.place, s.from_one) in
    sound_holds _ (rw (c.drop_front.ensures.items, e) (sound_released (log_value c.self.inside) s))
