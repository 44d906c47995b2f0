use Rattle.std.proofs.Common.{◌≡◌, OnOk, subst}
use Rattle.std.proofs.lemmas.Result.{on_ok_weaker}
use Rattle.segment_law.specs.declared.call.Call.TheVariants.{Close}
use Rattle.bus_node.proofs.Replies.{close_done}
use Rattle.bus_node.specs.Node.{Node, asked}
use Rattle.bus_node.specs.NodeFields.{node_value}
use Rattle.bus_node.proofs.Stations.{told_done}
use Rattle.bus_node.proofs.node.Node.close_port.Goals as goal

pub returns : goal.returns
returns c =
    subst (λ (n : Node). OnOk c.reply_to.result (c.reply_to.new.self ≡ asked n (Close c.args.port))) c.self.view_is
    (on_ok_weaker c.reply_to.result (λ t. told_done (node_value c.self.inside) (Close c.args.port) c.close_port-made.new.self c.close_port-made.result c.reply_to.new.self (close_done (node_value c.self.inside).station.segment c.args.port) c.close_port-made.ensures t) c.reply_to.ensures)
