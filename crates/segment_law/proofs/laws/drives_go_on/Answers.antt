use Rattle.segment_law.proofs.Driving.{drive_stands}
use Rattle.segment_law.proofs.laws.drives_go_on.Goals as goal

pub returns : goal.returns
returns c = drive_stands
