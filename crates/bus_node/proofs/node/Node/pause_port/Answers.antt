use Rattle.std.proofs.Common.{◌≡◌, OnOk, subst}
use Rattle.std.proofs.lemmas.Result.{on_ok_weaker}
use Rattle.segment_law.specs.declared.call.Call.TheVariants.{Pause}
use Rattle.bus_node.proofs.Replies.{pause_done}
use Rattle.bus_node.specs.Node.{Node, asked}
use Rattle.bus_node.specs.NodeFields.{node_value}
use Rattle.bus_node.proofs.Stations.{told_done}
use Rattle.bus_node.proofs.node.Node.pause_port.Goals as goal

pub returns : goal.returns
returns c =
    subst (λ (n : Node). OnOk c.reply_to.result (c.reply_to.new.self ≡ asked n (Pause c.args.port))) c.self.view_is
    (on_ok_weaker c.reply_to.result (λ t. told_done (node_value c.self.inside) (Pause c.args.port) c.pause_port-made.new.self c.pause_port-made.result c.reply_to.new.self (pause_done (node_value c.self.inside).station.segment c.args.port) c.pause_port-made.ensures t) c.reply_to.ensures)
