use Rattle.bus_frame.proofs.Identifiers.{id_back}
use Rattle.bus_frame.proofs.can_id.parts_give_their_identifier.Goals as goal

pub returns : goal.returns
returns c = id_back
