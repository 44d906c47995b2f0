use Rattle.std.proofs.Common.{ap}
use Rattle.script_segments.specs.Plan.{Plan}
use Rattle.script_segments.proofs.relay.gateway.setup_after.Goals as goal

pub returns : goal.returns
returns c = ap (λ (p : Plan). record p { text = c.args.refused.items }) c.new-next.ensures
