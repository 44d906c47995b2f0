-- Messages that are sent, pumped and cancelled.
use Rattle.std.specs.Prelude.{ℕ, nat_lt, if◌then◌else◌, List, Option, None}
use Rattle.tx_queue.specs.Queue.{free_places}
use Rattle.std.specs.FinMap as map
use Rattle.pgn_ids.specs.declared.address.Address.{Address}
use Rattle.lane_core.specs.Lane.{Lane, pushed}
use Rattle.lane_core.specs.declared.sight.LaneSight.{LaneSight}
use Rattle.lane_core.specs.Pump as lane-pump
use Rattle.lane_core.specs.Cancel as lane-cancel
use Rattle.station_lanes.specs.LaneCalls.{lane_to}
use Rattle.station_lanes.specs.LaneReaders.{pumping_lane, sight_at}
use Rattle.station_core.specs.Station.{Station, StationStep, by_lane}

-- the lane to a destination; a new one before the first message
abbrev pub lane_of : Station → (to : Address) → Lane
lane_of st to = lane_to st.address st.lanes to.0

-- the sight of the lane to a destination
abbrev pub lane_seen : Station → (to : Address) → LaneSight
lane_seen st to = sight_at st.lanes to.0

-- a message is sent
abbrev pub sent : Station → (to : Address) → (pgn : ℕ) → List ℕ → Station
sent st to pgn bytes = record st { lanes = map.insert st.lanes to.0 (pushed (lane_of st to) pgn bytes) }

-- the lane's next frames are queued
abbrev pub pumped : Station → (to : Address) → (now : ℕ) → StationStep
pumped st to now = by_lane st to (λ l. lane-pump.pumped l now)

-- a message is cancelled
abbrev pub cancelled : Station → (to : Address) → (number : ℕ) → StationStep
cancelled st to number = by_lane st to (λ l. lane-cancel.cancelled l number)

-- the lowest destination that is pumped, if eight frames have their places
abbrev pub next_pump : Station → (now : ℕ) → Option ℕ
next_pump st now = if nat_lt (free_places st.queue) 8 then None else pumping_lane st.lanes now
