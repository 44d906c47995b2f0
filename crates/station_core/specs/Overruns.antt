-- A station that missed frames.
use Rattle.std.specs.Prelude.{◌≡◌}
use Rattle.std.specs.FinMap as map
use Rattle.station_lanes.specs.LaneReaders.{overrun_lanes, overrun_events, HasNoConnection}
use Rattle.station_core.specs.Station.{Station, StationStep}

-- every incoming session and every connection under way ends
abbrev pub overrun : Station → StationStep
overrun st = record {
  station = record st { lanes = overrun_lanes st.lanes 256; sessions = map.empty };
  events = overrun_events st.address st.lanes 256;
}

-- no incoming session is open, and no connection is under way
pub record HasNoneUnderWay (st : Station) : Type 0 where
  pub sessions : st.sessions ≡ map.empty
  pub connections : HasNoConnection st.lanes
