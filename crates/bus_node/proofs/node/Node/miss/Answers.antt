use Rattle.std.proofs.Common.{◌≡◌, OnOk, subst}
use Rattle.std.proofs.lemmas.Result.{on_ok_weaker}
use Rattle.bus_node.specs.Stations.{missed}
use Rattle.bus_node.specs.Node.{Node, with_station}
use Rattle.bus_node.specs.NodeFields.{node_value}
use Rattle.bus_node.proofs.Stations.{told_missed}
use Rattle.bus_node.proofs.node.Node.miss.Goals as goal

pub returns-in-Ended : goal.returns-in-Ended
returns-in-Ended c =
    subst (λ (n : Node). OnOk c.tell.result (c.tell.new.self ≡ with_station n (missed n.station))) c.self.view_is
    (on_ok_weaker c.tell.result (λ t. told_missed (node_value c.self.inside) c.missed.new.self c.tell.new.self c.in-Ended.ensures t) c.tell.ensures)
