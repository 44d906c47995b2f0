use Rattle.bus_frame.proofs.Identifiers.{parts_back}
use Rattle.bus_frame.proofs.can_id.identifiers_give_their_parts.Goals as goal

pub returns : goal.returns
returns c = parts_back
