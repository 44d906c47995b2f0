use Rattle.std.proofs.Common.{◌≡◌, OnOk, subst}
use Rattle.std.proofs.lemmas.Result.{on_ok_weaker}
use Rattle.segment_law.specs.declared.call.Call.TheVariants.{Pump}
use Rattle.bus_node.specs.Node.{Node, called}
use Rattle.bus_node.specs.NodeFields.{node_value}
use Rattle.bus_node.proofs.Stations.{told_call}
use Rattle.bus_node.proofs.node.Node.pump.Goals as goal

pub returns : goal.returns
returns c =
    subst (λ (n : Node). OnOk c.tell_of.result (c.tell_of.new.self ≡ called n (Pump n.station.address c.args.to))) c.self.view_is
    (on_ok_weaker c.tell_of.result (λ t. told_call (node_value c.self.inside) (Pump (node_value c.self.inside).station.address c.args.to) c.pump-made.new.self c.pump-made.result c.tell_of.new.self c.pump-made.ensures t) c.tell_of.ensures)
