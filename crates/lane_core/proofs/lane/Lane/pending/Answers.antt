use Rattle.lane_core.proofs.Pushing.{carried_read}
use Rattle.lane_core.proofs.lane.Lane.pending.Goals as goal

pub returns-clause-few_bytes : goal.returns-clause-few_bytes
returns-clause-few_bytes c = carried_read c.self.inside.to.0 c.self.inside.pending.items c.self.inside.pending.len c.get.result c.args.i c.self.inside.pending.ok.0 c.get.ensures.variant c.get.ensures.lookup c.self.invariant.carried
