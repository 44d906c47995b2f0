use Rattle.std.proofs.Common.{◌≡◌, OnOk, subst}
use Rattle.std.proofs.lemmas.Result.{on_ok_weaker}
use Rattle.segment_law.specs.declared.call.Call.TheVariants.{Resume}
use Rattle.bus_node.proofs.Replies.{resume_done}
use Rattle.bus_node.specs.Node.{Node, asked}
use Rattle.bus_node.specs.NodeFields.{node_value}
use Rattle.bus_node.proofs.Stations.{told_done}
use Rattle.bus_node.proofs.node.Node.resume_port.Goals as goal

pub returns : goal.returns
returns c =
    subst (λ (n : Node). OnOk c.reply_to.result (c.reply_to.new.self ≡ asked n (Resume c.args.port))) c.self.view_is
    (on_ok_weaker c.reply_to.result (λ t. told_done (node_value c.self.inside) (Resume c.args.port) c.resume_port-made.new.self c.resume_port-made.result c.reply_to.new.self (resume_done (node_value c.self.inside).station.segment c.args.port) c.resume_port-made.ensures t) c.reply_to.ensures)
