use Rattle.std.proofs.Common.{refl}
use Rattle.session_table.specs.Shape.{sessions_of}
use Rattle.session_table.proofs.table.SessionTable.new.Goals as goal

pub returns : goal.returns
unfolding sessions_of
returns g c = rw c.new-2.ensures.empty refl
