use Rattle.relay_law.proofs.Chained.{fed_at_first}
use Rattle.relay_law.proofs.laws.nothing_is_fed_at_first.Goals as goal

pub returns : goal.returns
returns c = fed_at_first
