-- The sight of a lane.
use Rattle.std.specs.Prelude.{Bool, true, false, length}
use Rattle.lane_core.specs.Lane.{Lane}
use Rattle.lane_core.specs.declared.probe.Standing.{Standing}
use Rattle.lane_core.specs.declared.probe.Standing.TheVariants.{Settled}
use Rattle.lane_core.specs.declared.sight.LaneSight.{LaneSight}

-- a lane has still to settle, whether it asks already or not
abbrev pub is_doubtful : Standing → Bool
is_doubtful Settled = false
is_doubtful _ = true

-- the messages without an outcome, and whether it is in doubt
abbrev pub sight_of : Lane → LaneSight
sight_of lane = record { pending = length lane.pending; in_doubt = is_doubtful lane.standing }

-- the sight of a lane that sent no message
abbrev pub nothing_seen : LaneSight
nothing_seen = record { pending = 0; in_doubt = false }
