use Rattle.node_law.proofs.Silent.{late, new}
use Rattle.node_law.proofs.laws.a_restart_is_silent_at_first.Goals as goal

pub returns-clause-late : goal.returns-clause-late
returns-clause-late c = late

pub returns-clause-new : goal.returns-clause-new
returns-clause-new c = new
