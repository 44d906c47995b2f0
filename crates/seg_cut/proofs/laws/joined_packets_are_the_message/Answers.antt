use Rattle.seg_cut.proofs.Joining.{goes_on, complete, whole}
use Rattle.seg_cut.proofs.laws.joined_packets_are_the_message.Goals as goal

pub returns-clause-goes_on : goal.returns-clause-goes_on
returns-clause-goes_on c = goes_on

pub returns-clause-complete : goal.returns-clause-complete
returns-clause-complete c = complete

pub returns-clause-whole : goal.returns-clause-whole
returns-clause-whole c = whole
