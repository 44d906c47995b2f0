-- A node as it is kept.
use Rattle.std.specs.Prelude.{◌≡◌, [], ◌∷◌}
use Rattle.pgn_ids.specs.declared.address.Address.{Address}
use Rattle.bus_order.specs.Bus.{waiting}
use Rattle.station_core.specs.Station.{Station}
use Rattle.segment_law.specs.Segment.{Segment}
use Rattle.segment_law.specs.Record.{Record, StandsAt}
use Rattle.one_station.specs.Node.{Node}
use Rattle.one_station.specs.declared.node.Node.TheInside.{Inside}

abbrev pub node_value : Inside → Node
node_value node = record { segment = node.segment; address = node.address; events = node.told.events; has_missed = node.has_missed; quiet_until = node.quiet_until }

-- a segment with this station alone, at which some calls led to it
abbrev pub IsStood : Address → Segment → Type 0
IsStood address segment = (steps : Record) × StandsAt (address ∷ []) steps segment

-- the station with this address, alone
pub record IsAlone (address : Address) (segment : Segment) : Type 0 where
  pub station : Station
  pub alone : segment.stations ≡ station ∷ []
  pub its : station.address ≡ address

-- and it has looked at every frame of its bus
abbrev pub HasLookedAtAll : Address → Segment → Type 0
HasLookedAtAll address segment = IsAlone address segment × (waiting segment.bus 0 ≡ 0)

pub record IsNodeInside (node : Inside) : Type 0 where
  pub stood : IsStood node.address node.segment
  pub looked : HasLookedAtAll node.address node.segment
