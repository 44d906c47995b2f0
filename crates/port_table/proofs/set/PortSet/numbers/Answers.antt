use Rattle.port_table.proofs.Sets.{ports_long, ports_above}
use Rattle.port_table.proofs.set.PortSet.numbers.Goals as goal

pub returns-clause-above : goal.returns-clause-above
returns-clause-above c k d =
    ports_above c.self.inside.kept c.len.result k d (ports_long c.self.inside.kept c.args.self.now c.len.result c.self.view_is c.len.ensures.value)
