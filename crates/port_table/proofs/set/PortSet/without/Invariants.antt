use Rattle.std.proofs.Common.{◌≡◌, ◌≤◌, length, take}
use Rattle.port_table.specs.PortSet.{without_number}
use Rattle.port_table.proofs.set.PortSet.without.Given as goal

abbrev pub invariant-loop-kept : goal.invariant-loop-kept
invariant-loop-kept l =
    (l.rest ≡ without_number (take l.kept-index l.kept-items) l.number) × (length l.rest ≤ l.kept-index)
