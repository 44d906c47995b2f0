use Rattle.script_segments.specs.Gateway.{plans_of}
use Rattle.script_segments.proofs.RelaySteps.{second_done}
use Rattle.script_segments.proofs.relay.obeying.obey_second.Goals as goal

pub returns : goal.returns
returns c = second_done (plans_of c.args.gateway.now) (plans_of c.begin_second.new.self) (plans_of c.obey_now.new.gateway) _ _ c.begin_second.ensures c.obey_now.ensures
