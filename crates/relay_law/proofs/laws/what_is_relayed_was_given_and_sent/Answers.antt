use Rattle.relay_law.proofs.Chained.{came_through}
use Rattle.relay_law.proofs.laws.what_is_relayed_was_given_and_sent.Goals as goal

pub returns : goal.returns
returns c = came_through
