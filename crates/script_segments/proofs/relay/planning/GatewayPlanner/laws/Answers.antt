use Rattle.script_segments.proofs.RelayTextsGrow.{obeys}
use Rattle.script_segments.proofs.RelayGrowing.{room_after}
use Rattle.script_segments.proofs.relay.planning.GatewayPlanner.laws.Goals as goal

pub returns-clause-grows : goal.returns-clause-grows
returns-clause-grows c = obeys

pub returns-clause-after : goal.returns-clause-after
returns-clause-after c = room_after
