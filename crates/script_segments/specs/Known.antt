-- What a segment has: the ports and clients that a text of it names.
use Rattle.std.specs.Prelude.{◌≡◌, ℕ, ◌<◌, ◌≤◌, List, [], length, slice_index_or, All}
use Rattle.pgn_ids.specs.declared.address.Address.{Address}
use Rattle.port_table.specs.declared.port.PortId.{PortId}
use Rattle.script_segments.specs.LiveView.{LiveView, ClientView, PortView}
use Rattle.script_segments.specs.Reports.{HasPort}

-- those of these ports that one station has are ports of the segment
abbrev pub ArePortsAt : (station : ℕ) → List PortView → List PortId → Type 0
ArePortsAt station opened ports = All (λ p. p.station.0 ≡ station → HasPort opened p) ports

-- all of these ports are ports of the segment
abbrev pub ArePorts : List PortView → List PortId → Type 0
ArePorts opened ports = All (HasPort opened) ports

-- the segment has a client for each of these stations with one address, numbered by its place among them
abbrev pub HaveClientsAt : (station : ℕ) → List ClientView → List Address → Type 0
HaveClientsAt station clients stations = (k : ℕ) → (a : Address) → k < length stations → (slice_index_or stations k a).0 ≡ station → k < length clients

-- the segment has a client for each of these stations
abbrev pub HaveClients : List ClientView → List Address → Type 0
HaveClients clients stations = length stations ≤ length clients

-- the segment has these ports, and a client of each of these stations; and nothing was cut of it, so that it keeps all that it gave and
-- noted
pub record AreKnown (stations : List Address) (ports : List PortId) (v : LiveView) : Type 0 where
  pub opened : ArePorts v.ports ports
  pub clients : HaveClients v.clients stations
  pub uncut : v.pieces ≡ []

-- these are the segment's stations
pub record IsThisSegment (stations : List Address) (ports : List PortId) (v : LiveView) : Type 0 where
  pub addresses : v.addresses ≡ stations
  pub known : AreKnown stations ports v
