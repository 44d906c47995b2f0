use Rattle.std.proofs.Common.{◌≡◌, OnOk, subst}
use Rattle.std.proofs.lemmas.Result.{on_ok_weaker}
use Rattle.bus_node.specs.Acting.{missing}
use Rattle.bus_node.specs.Node.{Node}
use Rattle.bus_node.specs.NodeFields.{node_value}
use Rattle.bus_node.proofs.Stations.{told_missing}
use Rattle.bus_node.proofs.node.Node.report_missed.Goals as goal

pub returns-in-Ended : goal.returns-in-Ended
returns-in-Ended c =
    subst (λ (n : Node). OnOk c.reply.result (c.reply.new.self ≡ missing n)) c.self.view_is
    (on_ok_weaker c.reply.result (λ t. told_missing (node_value c.self.inside) c.missed.new.self c.none.result c.reply.new.self c.in-Ended.ensures t) c.reply.ensures)
