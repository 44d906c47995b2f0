use Rattle.tp_wire.proofs.WholeFrames.{one_meaning}
use Rattle.tp_wire.proofs.laws.frames_have_one_meaning.Goals as goal

pub returns : goal.returns
returns c = one_meaning
