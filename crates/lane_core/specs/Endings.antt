-- How the messages of a lane end. Every ending of a connection but the acknowledged one leaves its lane in doubt, since
-- frames of it may still be on their way.
use Rattle.std.specs.Prelude.{Bool, true, false, ◌||◌, ◌==◌, if◌then◌else◌, List, [], ◌∷◌, drop, Option, Some, None, option_to_list}
use Rattle.bus_frame.specs.Frames.{CanFrame}
use Rattle.pgn_ids.specs.Address.{global_address}
use Rattle.tp_wire.specs.declared.outcome.Outcome.TheVariants.{Acknowledged}
use Rattle.tp_wire.specs.declared.outcome.Outcome.{Outcome}
use Rattle.originator.specs.declared.states.Stepped.TheVariants.{On, Over}
use Rattle.originator.specs.declared.states.OutOver.{OutOver}
use Rattle.originator.specs.declared.states.Stepped.{Stepped}
use Rattle.originator.specs.declared.endings.Ending.{Ending}
use Rattle.originator.specs.Endings.{ended as ended_link}
use Rattle.originator.specs.Readers.{link_of}
use Rattle.lane_core.specs.declared.place.UnderWay.{UnderWay}
use Rattle.lane_core.specs.declared.place.UnderWay.TheVariants.{Connection, Nothing}
use Rattle.lane_core.specs.declared.step.Ended.{Ended}
use Rattle.lane_core.specs.declared.probe.Standing.TheVariants.{InDoubt}
use Rattle.lane_core.specs.Step.{LaneStep, nothing_to_do}
use Rattle.lane_core.specs.declared.message.Pending.{Pending}
use Rattle.lane_core.specs.declared.probe.Standing.{Standing}
use Rattle.lane_core.specs.Lane.{Lane, with_under_way}

abbrev pub is_acknowledged : Outcome → Bool
is_acknowledged Acknowledged = true
is_acknowledged _ = false

-- the lane to all is never in doubt
abbrev pub standing_after : Lane → Outcome → Standing
standing_after lane outcome = if lane.to == global_address || is_acknowledged outcome then lane.standing else InDoubt

-- the outcome of the front message
abbrev pub front_ended : List Pending → Outcome → Option Ended
front_ended [] outcome = None
front_ended (m ∷ _) outcome = Some (record { number = m.number; outcome = outcome })

-- the front message ends, perhaps with a frame
abbrev pub ended_lane : Lane → Outcome → Lane
ended_lane lane outcome = record lane { pending = drop 1 lane.pending; under_way = Nothing; standing = standing_after lane outcome }

abbrev pub over : Lane → Outcome → Option CanFrame → Lane × LaneStep
over lane outcome frame = (ended_lane lane outcome, record { frames = option_to_list frame; ended = front_ended lane.pending outcome })

-- nothing ends and nothing is queued
abbrev pub still : Lane → Lane × LaneStep
still lane = (lane, nothing_to_do)

-- the connection under way continues in a state, or is over
abbrev pub connection_over : Lane → OutOver → Lane × LaneStep
connection_over lane over_by = over lane over_by.outcome over_by.frame

-- a frame of the destination ends the connection under way
abbrev pub ended_by : UnderWay → Lane → Ending → Lane × LaneStep
ended_by (Connection s) lane ending = connection_over lane (ended_link (link_of s) ending)
ended_by _ lane ending = still lane

abbrev pub after_step : Lane → Stepped → Lane × LaneStep
after_step lane (On state) = still (with_under_way lane (Connection state))
after_step lane (Over over_by) = connection_over lane over_by
