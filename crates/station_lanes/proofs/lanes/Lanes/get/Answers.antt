use Rattle.std.proofs.Common.{sym, ◌∙◌, ap}
use Rattle.std.specs.FinMap as map
use Rattle.station_lanes.proofs.SlotLaws.{get_lanes}
use Rattle.station_lanes.proofs.lanes.Lanes.get.Goals as goal

pub returns-clause-value : goal.returns-clause-value
returns-clause-value c = c.lane_at.ensures ∙ sym (get_lanes c.self.inside.slots.items c.args.to.0) ∙ ap (λ m. map.get m c.args.to.0) c.self.view_is
