use Rattle.restart_law.proofs.First.{first_start}
use Rattle.restart_law.proofs.laws.a_first_start_is_one.Goals as goal

pub returns : goal.returns
returns c = first_start
