use Rattle.tp_wire.proofs.WholeFrames.{reads_transport}
use Rattle.tp_wire.proofs.laws.meanings_are_of_transport_frames.Goals as goal

pub returns : goal.returns
returns c = reads_transport
