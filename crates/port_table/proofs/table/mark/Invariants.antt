use Rattle.std.proofs.Common.{◌≡◌, ◌++◌, map, take, drop}
use Rattle.port_table.specs.Ports.{marked}
use Rattle.port_table.proofs.table.mark.Given as goal

-- the front is marked
abbrev pub invariant-loop-port : goal.invariant-loop-port
invariant-loop-port l =
    l.port-items ≡ map (marked l.number l.paused) (take l.port-index l.initial.port-items) ++ drop l.port-index l.initial.port-items
