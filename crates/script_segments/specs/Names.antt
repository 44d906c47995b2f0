-- What the text of a segment names.
use Rattle.std.specs.Prelude.{◌≡◌, List, Option, Some, None, option_map}
use Rattle.pgn_ids.specs.declared.address.Address.{Address}
use Rattle.stored_calls.specs.declared.stored.Stored.{Stored}
use Rattle.script_segments.specs.Plan.{Plan}
use Rattle.script_segments.specs.declared.names.Names.{Names}

abbrev pub stations_in : List Address × List Stored → List Address
stations_in m = m.0

-- these are the stations, ports and messages of a plan
pub record IsNamed (p : Plan) (n : Names) : Type 0 where
  pub stations : option_map stations_in p.made ≡ Some n.stations.items
  pub ports : p.ports ≡ n.ports.items
  pub messages : p.messages ≡ n.messages.items

-- there are names if the plan has stations, and they are those of the plan
abbrev pub AreNamed : Plan → Option Names → Type 0
AreNamed p None = p.made ≡ None
AreNamed p (Some n) = IsNamed p n
