use Rattle.one_station.proofs.Own.{passed_own}
use Rattle.one_station.proofs.look.pass.Goals as goal

pub returns : goal.returns
returns c = passed_own c.args.segment.now c.apply.new.self c.args.station c.in-Ok.field-0 c.requires c.in-Ok.ensures.ok
