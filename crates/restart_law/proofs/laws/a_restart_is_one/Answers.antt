use Rattle.restart_law.proofs.First.{restart}
use Rattle.restart_law.proofs.laws.a_restart_is_one.Goals as goal

pub returns : goal.returns
returns c = restart
