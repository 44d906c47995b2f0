-- The facts known of two segments before their threads run.
use Rattle.std.specs.Prelude.{◌≡◌, Option}
use Rattle.script_runs.specs.declared.ending.Told.{Told}
use Rattle.script_segments.specs.Plan.{Plan}
use Rattle.script_segments.specs.Names.{IsNamed}
use Rattle.script_segments.specs.declared.relay.gateway.Passage.{Passage}
use Rattle.bus_relay.specs.Ending.{CameOf}
use Rattle.bus_relay.specs.declared.known.Known.{Known}

-- these are the names in two plans
pub record IsKnown (p q : Plan) (o : Option Passage) (k : Known) : Type 0 where
  pub near : IsNamed p k.near
  pub far : IsNamed q k.far
  pub passage : k.passage ≡ o

-- what the threads of segments with these names left
abbrev pub CameOfKnown : Known → Told → Type 0
CameOfKnown k told = CameOf k.near.stations.items k.far.stations.items k.far.ports.items k.near.messages.items k.passage told.ran_out told.text.items
