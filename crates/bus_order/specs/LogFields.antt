-- A log as it is kept: beside the bus itself, the cursors furthest behind.
use Rattle.std.specs.Prelude.{◌<◌, length}
use Rattle.std.specs.VecDeque.{deque_capacity}
use Rattle.bus_order.specs.Bus.{Bus}
use Rattle.bus_order.specs.Kept.{IsSound}
use Rattle.bus_order.specs.Rear.{IsRear}
use Rattle.bus_order.specs.declared.log.BusLog.TheInside.{Inside}

-- the bus that the fields represent
abbrev pub log_value : Inside → Bus
log_value log = record { first = log.first; kept = log.kept.items; cursors = log.cursors.items }

-- the bus is sound, those cursors are the ones furthest behind, and there is room for two frames at least
pub record IsSoundLog (log : Inside) : Type 0 where
  pub sound : IsSound (log_value log)
  pub rear : IsRear log.rear log.cursors.items
  pub room : 1 < deque_capacity log.kept
