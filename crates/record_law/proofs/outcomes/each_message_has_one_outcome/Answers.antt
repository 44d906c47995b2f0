use Rattle.record_law.proofs.outcomes.Records.{one_outcome}
use Rattle.record_law.proofs.outcomes.each_message_has_one_outcome.Goals as goal

pub returns : goal.returns
returns c = one_outcome
