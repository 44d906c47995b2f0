use Rattle.std.proofs.Common.{◌≤◌, take}
use Rattle.bus_order.specs.Rear.{IsRear}
use Rattle.bus_order.proofs.cursor.rear_of.Given as goal

abbrev pub invariant-loop-i : goal.invariant-loop-i
invariant-loop-i l = (1 ≤ l.i) × IsRear l.rear (take l.i l.cursors)
