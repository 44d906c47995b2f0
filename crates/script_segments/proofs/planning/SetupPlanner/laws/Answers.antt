use Rattle.script_segments.proofs.TextsGrow.{obeys}
use Rattle.script_segments.proofs.Growing.{room_after}
use Rattle.script_segments.proofs.planning.SetupPlanner.laws.Goals as goal

pub returns-clause-grows : goal.returns-clause-grows
returns-clause-grows c = obeys

pub returns-clause-after : goal.returns-clause-after
returns-clause-after c = room_after
