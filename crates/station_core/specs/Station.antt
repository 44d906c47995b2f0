-- A station of a segment.
use Rattle.std.specs.Prelude.{◌≡◌, true, List, [], ◌++◌, option_to_list}
use Rattle.std.specs.FinMap as map
use Rattle.bus_frame.specs.Frames.{CanFrame}
use Rattle.pgn_ids.specs.Address.{is_one}
use Rattle.pgn_ids.specs.declared.address.Address.{Address}
use Rattle.port_table.specs.Ports.{Ports, no_ports}
use Rattle.lane_core.specs.Lane.{Lane}
use Rattle.lane_core.specs.Step.{LaneStep}
use Rattle.message_events.specs.declared.event.Event.{Event}
use Rattle.station_lanes.specs.Lanes.{Lanes}
use Rattle.station_lanes.specs.LaneCalls.{stepped_lanes, step_at, outcome_of}
use Rattle.station_sessions.specs.Receiving.{Inbound, Reception}

-- its address, the frames that it has still to put on the bus, its lanes, its incoming sessions and its ports
pub record Station : Type 0 where
  pub address : Address
  pub queue : List CanFrame
  pub lanes : Lanes
  pub sessions : Inbound
  pub ports : Ports

-- nothing was done yet
abbrev pub new_station : Address → Station
new_station address = record { address = address; queue = []; lanes = map.empty; sessions = map.empty; ports = no_ports address }

-- what holds of every station: it has the address of one node, and its ports are its own
pub record IsStation (st : Station) : Type 0 where
  pub own : is_one st.address.0 ≡ true
  pub ports : st.ports.station ≡ st.address

-- the station after a call, and the call's events
pub record StationStep : Type 0 where
  pub station : Station
  pub events : List Event

-- there is no event
abbrev pub quietly : Station → StationStep
quietly st = record { station = st; events = [] }

-- frames are queued behind the others
abbrev pub queues : Station → List CanFrame → Station
queues st frames = record st { queue = st.queue ++ frames }

-- a step of an incoming session is the station's
abbrev pub by_session : Station → Reception → StationStep
by_session st r = record {
  station = record st { queue = st.queue ++ option_to_list r.frame; sessions = r.sessions };
  events = r.events;
}

-- a step of the lane to a destination is the station's
abbrev pub by_lane : Station → Address → (Lane → Lane × LaneStep) → StationStep
by_lane st to step = record {
  station = record st { queue = st.queue ++ (step_at st.lanes to.0 step).frames; lanes = stepped_lanes st.lanes to.0 step };
  events = outcome_of st.address to (step_at st.lanes to.0 step).ended;
}
