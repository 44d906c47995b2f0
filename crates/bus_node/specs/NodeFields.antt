-- A node as it is kept.
use Rattle.bus_node.specs.Node.{Node}
use Rattle.bus_node.specs.declared.node.Node.TheInside.{Inside}

abbrev pub node_value : Inside → Node
node_value n = record { station = n.station; iface = n.iface; knows_iface = n.knows_iface; knows_other = n.knows_other; quiet = n.quiet; rests = n.rests; since = n.since; start = n.start; echoes = n.echoes; strict = n.strict; counts = n.counts; text = n.text.items }
