use Rattle.tp_wire.proofs.WholeFrames.{written_reads}
use Rattle.tp_wire.proofs.laws.written_frames_have_their_meaning.Goals as goal

pub returns : goal.returns
returns c = written_reads c.identifiers_are_read_back.ensures
