use Rattle.broadcast_law.proofs.Owned.{queue_their_own}
use Rattle.broadcast_law.proofs.laws.stations_queue_their_own.Goals as goal

pub returns : goal.returns
returns c = queue_their_own c.broadcasts_go_on.ensures.stream_goes_on c.identifiers_are_read_back.ensures c.what_is_written_is_read.ensures c.packet_is_seven_places.ensures.seven
