use Rattle.record_law.proofs.readers.Takes.{wanted_is_given}
use Rattle.record_law.proofs.readers.wants_are_what_is_given.Goals as goal

pub returns : goal.returns
returns c = wanted_is_given
