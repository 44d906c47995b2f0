use Rattle.tp_wire.proofs.WholeFrames.{malformed_says, malformed_holds}
use Rattle.tp_wire.proofs.Numbers.{all_bytes}
use Rattle.tp_wire.proofs.laws.malformed_frames_have_no_meaning.Goals as goal

pub returns : goal.returns
returns c = λ f fits. (malformed_says f, λ h. malformed_holds f (all_bytes f.bytes fits) h.0 h.1)
