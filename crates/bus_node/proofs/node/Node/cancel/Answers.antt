use Rattle.std.proofs.Common.{◌≡◌, OnOk, subst}
use Rattle.std.proofs.lemmas.Result.{on_ok_weaker}
use Rattle.segment_law.specs.declared.call.Call.TheVariants.{Cancel}
use Rattle.bus_node.proofs.Replies.{cancel_done}
use Rattle.bus_node.specs.Node.{Node, asked}
use Rattle.bus_node.specs.NodeFields.{node_value}
use Rattle.bus_node.proofs.Stations.{told_done}
use Rattle.bus_node.proofs.node.Node.cancel.Goals as goal

pub returns : goal.returns
returns c =
    subst (λ (n : Node). OnOk c.reply_to.result (c.reply_to.new.self ≡ asked n (Cancel n.station.address c.args.to c.args.number))) c.self.view_is
    (on_ok_weaker c.reply_to.result (λ t. told_done (node_value c.self.inside) (Cancel (node_value c.self.inside).station.address c.args.to c.args.number) c.cancel-made.new.self c.cancel-made.result c.reply_to.new.self (cancel_done (node_value c.self.inside).station.segment (node_value c.self.inside).station.address c.args.to c.args.number) c.cancel-made.ensures t) c.reply_to.ensures)
