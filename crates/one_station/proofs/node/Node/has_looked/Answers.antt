use Rattle.one_station.proofs.Resting.{none_waits}
use Rattle.one_station.proofs.node.Node.has_looked.Goals as goal

pub returns : goal.returns
returns c = none_waits c.args.self.now c.self.inside.segment c.self.inside.address c.self.inside.told.events c.self.inside.has_missed c.self.inside.quiet_until c.self.view_is c.self.invariant.stood c.self.invariant.looked
