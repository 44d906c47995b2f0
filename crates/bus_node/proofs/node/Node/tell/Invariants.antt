use Rattle.std.proofs.Common.{◌≡◌, length}
use Rattle.bus_node.specs.Node.{events_told}
use Rattle.bus_node.proofs.node.Node.tell.Given as goal

-- the events that are left lead to where all lead
abbrev pub invariant-events : goal.invariant-events
invariant-events l = events_told l.self ≡ events_told l.fn.self

abbrev pub decreases-events : goal.decreases-events
decreases-events l = length l.self.station.events
