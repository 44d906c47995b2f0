use Rattle.record_law.proofs.readers.Missed.{overrun_missed}
use Rattle.record_law.proofs.readers.overruns_leave_nothing_to_take_again.Goals as goal

pub returns : goal.returns
returns c = overrun_missed
