-- A step of the lane to a destination. If no message was ever sent to it, there is nothing to do.
use Rattle.std.specs.Prelude.{ℕ, List, [], ◌∷◌, Option, Some, None}
use Rattle.std.specs.FinMap as map
use Rattle.pgn_ids.specs.declared.address.Address.{Address}
use Rattle.lane_core.specs.Lane.{Lane, new_lane}
use Rattle.lane_core.specs.Step.{nothing_to_do, LaneStep}
use Rattle.lane_core.specs.declared.step.Ended.{Ended}
use Rattle.station_lanes.specs.Lanes.{Lanes}
use Rattle.message_events.specs.declared.event.Event.{Event}
use Rattle.message_events.specs.declared.event.Event.TheVariants as event

-- the lanes after it
abbrev pub stepped_lanes : Lanes → (to : ℕ) → (Lane → Lane × LaneStep) → Lanes
stepped_lanes lanes to step = elim (map.get lanes to) [ None ↦ lanes | Some lane ↦ map.insert lanes to (step lane).0 ]

-- what it leaves to do
abbrev pub step_at : Lanes → (to : ℕ) → (Lane → Lane × LaneStep) → LaneStep
step_at lanes to step = elim (map.get lanes to) [ None ↦ nothing_to_do | Some lane ↦ (step lane).1 ]

-- the outcome of the message that it ended
abbrev pub outcome_of : Address → Address → Option Ended → List Event
outcome_of from to None = []
outcome_of from to (Some e) = event.Outcome from to e.number e.outcome ∷ []

-- the lane to a destination; before the first message it is as a new one
abbrev pub lane_to : Address → Lanes → (to : ℕ) → Lane
lane_to from lanes to = elim (map.get lanes to) [ None ↦ new_lane from.0 to | Some lane ↦ lane ]
