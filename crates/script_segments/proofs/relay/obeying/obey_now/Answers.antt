use Rattle.script_segments.specs.Gateway.{plans_of}
use Rattle.script_segments.proofs.RelaySteps.{goes_done}
use Rattle.script_segments.proofs.relay.obeying.obey_now.Goals as goal

pub returns : goal.returns
returns c = goes_done (plans_of c.args.gateway.now) c.args.gateway.now.routing _ _ _ c.obey_words.ensures
