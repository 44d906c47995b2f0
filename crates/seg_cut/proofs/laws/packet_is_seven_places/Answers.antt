use Rattle.seg_cut.proofs.Cutting.{get_or-packet}
use Rattle.seg_cut.proofs.laws.packet_is_seven_places.Goals as goal

pub returns-clause-places : goal.returns-clause-places
returns-clause-places c = get_or-packet
