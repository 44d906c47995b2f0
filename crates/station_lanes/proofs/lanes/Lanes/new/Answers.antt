use Rattle.station_lanes.proofs.SlotLaws.{empty_is}
use Rattle.station_lanes.proofs.lanes.Lanes.new.Goals as goal

pub returns : goal.returns
returns c = empty_is c.loop.slots.items _ c.loop.invariant.0
