use Rattle.segment_drain.proofs.Calm.{calm_call}
use Rattle.segment_drain.proofs.rest.calm_stays.Goals as goal

pub returns : goal.returns
returns c = λ seg call is calm. calm_call seg calm call is
