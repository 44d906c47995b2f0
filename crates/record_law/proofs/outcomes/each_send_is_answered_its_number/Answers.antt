use Rattle.record_law.proofs.outcomes.Numbers.{are_numbered}
use Rattle.record_law.proofs.outcomes.each_send_is_answered_its_number.Goals as goal

pub returns : goal.returns
returns c = are_numbered
