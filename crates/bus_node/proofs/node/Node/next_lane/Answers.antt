use Rattle.std.proofs.Common.{sym, ◌∙◌, ap}
use Rattle.node_parts.specs.Rests.{is_at_rest}
use Rattle.bus_node.specs.NodeFields.{node_value}
use Rattle.bus_node.specs.Time.{next_lane}
use Rattle.bus_node.proofs.Lanes.{next_awake}
use Rattle.bus_node.proofs.node.Node.next_lane.Goals as goal

pub returns-else-is_at_rest : goal.returns-else-is_at_rest
returns-else-is_at_rest c =
    let awake = ap (λ now. is_at_rest c.self.inside.rests now c.in-Some.to.0) (sym c.now.ensures) ∙ (sym c.is_at_rest.ensures ∙ c.if-is_at_rest.false) in
    next_awake (node_value c.self.inside) c.in-Some.to (sym c.next_pump.ensures ∙ c.in-Some.is) awake ∙ ap next_lane c.self.view_is
