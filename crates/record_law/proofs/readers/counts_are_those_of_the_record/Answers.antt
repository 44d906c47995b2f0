use Rattle.record_law.proofs.readers.Recorded.{counts_are_recorded}
use Rattle.record_law.proofs.readers.counts_are_those_of_the_record.Goals as goal

pub returns : goal.returns
returns c = counts_are_recorded
