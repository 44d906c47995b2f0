use Rattle.std.proofs.Common.{◌++◌, ap, ◌∙◌}
use Rattle.node_parts.specs.Told.{Waiting, part_events, front_events}
use Rattle.node_parts.proofs.Joining.{kept_behind}
use Rattle.node_parts.proofs.told.Told.keep_part.Goals as goal

pub returns-else-is_none : goal.returns-else-is_none
returns-else-is_none c =
    kept_behind (front_events c.self.inside.front) c.self.inside.parts.items c.push_back_reserved.new.self.items c.args.part c.push_back_reserved.ensures.items
    ∙ ap (λ (w : Waiting). w.events ++ part_events c.args.part) c.self.view_is
