use Rattle.lane_law.proofs.Senders.{is_sender}
use Rattle.lane_law.proofs.Words.{are_one_each, are_within}
use Rattle.lane_law.proofs.broadcasts_end_once.Goals as goal

pub returns-clause-single : goal.returns-clause-single
returns-clause-single c sender h = are_one_each sender.outcomes (is_sender sender h).numbers.single

pub returns-clause-sent : goal.returns-clause-sent
returns-clause-sent c sender h = are_within sender.sent sender.outcomes (is_sender sender h).numbers.outcomes_within
