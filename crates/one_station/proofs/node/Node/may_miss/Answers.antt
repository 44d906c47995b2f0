use Rattle.one_station.proofs.Resting.{may_miss}
use Rattle.one_station.proofs.node.Node.may_miss.Goals as goal

pub returns : goal.returns
returns c = may_miss c.args.self.now c.self.inside.segment c.self.inside.address c.self.inside.told.events c.self.inside.has_missed c.self.inside.quiet_until c.self.view_is c.self.invariant.stood c.self.invariant.looked
