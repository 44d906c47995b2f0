use Rattle.relay_law.proofs.Chained.{fed_on}
use Rattle.relay_law.proofs.laws.relays_feed.Goals as goal

pub returns : goal.returns
returns c = fed_on
