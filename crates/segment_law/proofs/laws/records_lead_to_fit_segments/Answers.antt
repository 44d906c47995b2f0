use Rattle.segment_law.proofs.Records.{stands_reached}
use Rattle.segment_law.proofs.laws.records_lead_to_fit_segments.Goals as goal

pub returns : goal.returns
returns c = stands_reached
