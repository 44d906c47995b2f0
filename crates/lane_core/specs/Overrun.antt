-- The step of a lane whose station missed frames.
use Rattle.originator.specs.Endings as out
use Rattle.lane_core.specs.declared.place.UnderWay.TheVariants.{Connection}
use Rattle.lane_core.specs.Step.{LaneStep}
use Rattle.lane_core.specs.declared.place.UnderWay.{UnderWay}
use Rattle.lane_core.specs.Lane.{Lane}
use Rattle.lane_core.specs.Endings.{connection_over, still}

-- the station missed frames: a connection under way ends, everything else continues
abbrev pub overrun_by : UnderWay → Lane → Lane × LaneStep
overrun_by (Connection s) lane = connection_over lane out.overrun
overrun_by _ lane = still lane

abbrev pub overrun : Lane → Lane × LaneStep
overrun lane = overrun_by lane.under_way lane
