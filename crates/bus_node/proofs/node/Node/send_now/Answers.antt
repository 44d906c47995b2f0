use Rattle.std.proofs.Common.{◌≡◌, ◌≤◌, OnOk, sym, subst}
use Rattle.std.proofs.lemmas.Result.{on_ok_weaker}
use Rattle.segment_law.specs.declared.call.Call.TheVariants.{Send}
use Rattle.segment_law.specs.declared.reply.Reply.TheVariants.{Sent}
use Rattle.bus_node.specs.Node.{Node, asked}
use Rattle.bus_node.specs.NodeFields.{node_value}
use Rattle.bus_node.proofs.Stations.{told_reply, told_refusal}
use Rattle.bus_node.proofs.node.Node.send_now.Goals as goal

-- the station may send
may_send : (n m : Node) → n ≡ m → m.station.quiet_until ≤ m.station.segment.now → n.station.quiet_until ≤ n.station.segment.now
may_send n m same late = subst (λ (x : Node). x.station.quiet_until ≤ x.station.segment.now) (sym same) late

pub returns-in-Ok : goal.returns-in-Ok
returns-in-Ok c =
    subst (λ (n : Node). OnOk c.reply.result (c.reply.new.self ≡ asked n (Send n.station.address c.args.to c.args.pgn c.args.bytes))) c.self.view_is
    (on_ok_weaker c.reply.result (λ t. told_reply (node_value c.self.inside) (Send c.self.inside.station.address c.args.to c.args.pgn c.args.bytes) c.send_bytes.new.self (Sent c.in-Ok.number) c.reply.new.self (c.in-Ok.ensures.answered (may_send (node_value c.self.inside) c.args.self.now c.self.view_is c.requires)).1 c.in-Ok.ensures.number t) c.reply.ensures)

pub returns-in-Err : goal.returns-in-Err
returns-in-Err c =
    subst (λ (n : Node). OnOk c.refuse_by.result (c.refuse_by.new.self ≡ asked n (Send n.station.address c.args.to c.args.pgn c.args.bytes))) c.self.view_is
    (on_ok_weaker c.refuse_by.result (λ t. told_refusal (node_value c.self.inside) (Send c.self.inside.station.address c.args.to c.args.pgn c.args.bytes) c.send_bytes.new.self c.in-Err.error c.refuse_by.new.self (c.in-Err.ensures.answered (may_send (node_value c.self.inside) c.args.self.now c.self.view_is c.requires)) t) c.refuse_by.ensures)
