use Rattle.std.proofs.Common.{◌≡◌, ◌≤◌, length, take}
use Rattle.port_table.specs.Ports.{numbers_of, receives}
use Rattle.port_table.proofs.table.PortTable.find.Given as goal

abbrev pub invariant-loop-port : goal.invariant-loop-port
invariant-loop-port l =
    (l.set ≡ numbers_of (receives l.pgn l.len) (take l.port-index l.port-items)) × (length l.set ≤ l.port-index)
