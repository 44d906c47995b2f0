use Rattle.watched_segment.proofs.Known.{calm_passed}
use Rattle.watched_segment.proofs.watched.Watched.pass_by.Goals as goal

pub invariant_of-self : goal.invariant_of-self
invariant_of-self c = calm_passed c.self.inside.calm.items c.self.inside.segment c.self.invariant c.args.station c.pass_by.new.self c.pass_by.result c.pass_by.ensures.made
