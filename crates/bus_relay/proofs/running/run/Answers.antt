use Rattle.std.proofs.Common.{◌∙◌}
use Rattle.bus_relay.proofs.Comings.{at_run}
use Rattle.bus_relay.proofs.running.run.Goals as goal

pub returns : goal.returns
returns g c = at_run _ _ _ _ _ _ _ _ _ c.in-Some.is c.in_ok-known.ensures.near c.in_ok-known.ensures.far (c.in_ok-known.ensures.passage ∙ c.passage.ensures) c.in_ok-told.ensures
