use Rattle.station_lanes.proofs.Marked.{none_to_null}
use Rattle.station_lanes.proofs.lanes.Lanes.laws.Goals as goal

pub returns : goal.returns
returns c = none_to_null c.self.inside.slots.items c.args.self.now c.self.view_is c.self.invariant.nodes
