use Rattle.node_law.proofs.Catching as catching
use Rattle.node_law.proofs.laws.feed_and_sent_are_deeds.Goals as goal

pub returns-clause-fed : goal.returns-clause-fed
returns-clause-fed c = catching.fed

pub returns-clause-sent : goal.returns-clause-sent
returns-clause-sent c = catching.sent
