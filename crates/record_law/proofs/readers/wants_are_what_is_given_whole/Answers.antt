use Rattle.record_law.proofs.readers.Lengths.{wanted_is_given_whole}
use Rattle.record_law.proofs.readers.wants_are_what_is_given_whole.Goals as goal

pub returns : goal.returns
returns c = wanted_is_given_whole
