use Rattle.std.proofs.Common.{◌≡◌, OnOk, subst}
use Rattle.std.proofs.lemmas.Result.{on_ok_weaker}
use Rattle.bus_node.specs.Stations.{ready, sent}
use Rattle.bus_node.specs.Node.{Node, with_station}
use Rattle.bus_node.specs.NodeFields.{node_value}
use Rattle.bus_node.proofs.Stations.{told_sent}
use Rattle.bus_node.proofs.node.Node.send_first.Goals as goal

pub returns : goal.returns
returns c =
    subst (λ (n : Node). OnOk c.tell_of.result (c.tell_of.new.self ≡ with_station n (sent (ready n.station)))) c.self.view_is
    (on_ok_weaker c.tell_of.result (λ t. told_sent (node_value c.self.inside) c.sent-made.new.self c.sent-made.result c.tell_of.new.self c.sent-made.ensures t) c.tell_of.ensures)
