-- Timers that fire: one call fires the first that is due, in the order of incoming sessions by source and kind, then of lanes
-- by destination.
use Rattle.std.specs.Prelude.{ℕ, Bool, ◌||◌, Option, Some, None, is_some}
use Rattle.lane_core.specs.Fire as lane-fire
use Rattle.session_table.specs.DueOrder.{first_due}
use Rattle.station_lanes.specs.LaneReaders.{due_lane}
use Rattle.station_sessions.specs.Receiving.{fired_at}
use Rattle.station_core.specs.Station.{Station, StationStep, quietly, by_session, by_lane}

-- a timer is due
abbrev pub is_due : Station → (now : ℕ) → Bool
is_due st now = is_some (first_due st.sessions now) || is_some (due_lane st.lanes now)

-- the timer of a lane fires
abbrev pub lane_fired : Station → (now : ℕ) → Option ℕ → StationStep
lane_fired st now None = quietly st
lane_fired st now (Some to) = by_lane st (record { 0 = to }) (λ l. lane-fire.fired l now)

-- the first timer that is due fires
abbrev pub fired : Station → (now : ℕ) → StationStep
fired st now = elim (first_due st.sessions now) [
  | None ↦ lane_fired st now (due_lane st.lanes now)
  | Some key ↦ by_session st (fired_at st.ports key now st.sessions)
]
