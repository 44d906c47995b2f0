use Rattle.std.proofs.Common.{◌≡◌, OnOk, max, ap, ◌∙◌, subst}
use Rattle.std.proofs.lemmas.Result.{on_ok_weaker}
use Rattle.bus_node.specs.Time.{at_tick}
use Rattle.bus_node.specs.Node.{Node}
use Rattle.bus_node.specs.NodeFields.{node_value}
use Rattle.bus_node.proofs.Stations.{told_clock}
use Rattle.bus_node.proofs.node.Node.go_to.Goals as goal

pub returns : goal.returns
returns c =
    subst (λ (n : Node). OnOk c.tell_of.result (c.tell_of.new.self ≡ at_tick c.args.tick n)) c.self.view_is
    (on_ok_weaker c.tell_of.result (λ t. told_clock (node_value c.self.inside) c.args.tick c.max.result c.clock-made.new.self c.clock-made.result c.tell_of.new.self (c.max.ensures ∙ ap (max c.args.tick) c.now.ensures) c.clock-made.ensures.answered t) c.tell_of.ensures)
