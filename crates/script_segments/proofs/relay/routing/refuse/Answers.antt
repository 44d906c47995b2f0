use Rattle.script_segments.specs.declared.relay.gateway.Routing.TheVariants as routings
use Rattle.script_segments.specs.Gateway.{plans_of}
use Rattle.script_segments.proofs.RelaySteps.{goes_done}
use Rattle.script_segments.proofs.relay.routing.refuse.Goals as goal

pub returns : goal.returns
returns c = goes_done (plans_of c.args.gateway.now) routings.Refused _ _ _ c.refuse.ensures
