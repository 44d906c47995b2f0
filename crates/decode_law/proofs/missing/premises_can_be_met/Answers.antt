use Rattle.decode_law.proofs.Examples.{broadcast, connection}
use Rattle.decode_law.proofs.missing.premises_can_be_met.Goals as goal

pub returns-clause-broadcast : goal.returns-clause-broadcast
returns-clause-broadcast c = broadcast

pub returns-clause-connection : goal.returns-clause-connection
returns-clause-connection c = connection
