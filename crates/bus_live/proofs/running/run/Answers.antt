use Rattle.bus_live.proofs.Coming.{at_came}
use Rattle.bus_live.proofs.running.run.Goals as goal

pub returns : goal.returns
returns g c = at_came _ _ _ _ _ c.in_ok-names.ensures c.in-Some.is c.in_ok-told.ensures
