use Rattle.tp_wire.proofs.WholeFrames.{written_is_read}
use Rattle.tp_wire.proofs.laws.what_is_written_is_read.Goals as goal

pub returns : goal.returns
returns c = written_is_read c.identifiers_are_read_back.ensures
