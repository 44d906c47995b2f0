use Rattle.std.proofs.Common.{◌≡◌, OnOk, subst}
use Rattle.std.proofs.lemmas.Result.{on_ok_weaker}
use Rattle.segment_law.specs.declared.call.Call.TheVariants.{Open}
use Rattle.segment_law.specs.declared.reply.Reply.TheVariants.{Opened}
use Rattle.bus_node.specs.Node.{Node, asked}
use Rattle.bus_node.specs.NodeFields.{node_value}
use Rattle.bus_node.proofs.Stations.{told_reply, told_refusal}
use Rattle.bus_node.proofs.node.Node.open_port.Goals as goal

pub returns-in-Ok : goal.returns-in-Ok
returns-in-Ok c =
    subst (λ (n : Node). OnOk c.reply.result (c.reply.new.self ≡ asked n (Open n.station.address c.args.pgn c.args.max_len))) c.self.view_is
    (on_ok_weaker c.reply.result (λ t. told_reply (node_value c.self.inside) (Open c.self.inside.station.address c.args.pgn c.args.max_len) c.open_port.new.self (Opened c.in-Ok.port) c.reply.new.self c.in-Ok.ensures.answered.1 c.in-Ok.ensures.port t) c.reply.ensures)

pub returns-in-Err : goal.returns-in-Err
returns-in-Err c =
    subst (λ (n : Node). OnOk c.refuse_by.result (c.refuse_by.new.self ≡ asked n (Open n.station.address c.args.pgn c.args.max_len))) c.self.view_is
    (on_ok_weaker c.refuse_by.result (λ t. told_refusal (node_value c.self.inside) (Open c.self.inside.station.address c.args.pgn c.args.max_len) c.open_port.new.self c.in-Err.error c.refuse_by.new.self c.in-Err.ensures.answered t) c.refuse_by.ensures)
