use Rattle.broadcast_law.proofs.Chosen.{chosen, numbered_over, not_own}
use Rattle.broadcast_law.proofs.laws.broadcasts_are_given_once_in_order.Goals as goal

pub returns-clause-chosen : goal.returns-clause-chosen
returns-clause-chosen c = chosen c.broadcasts_go_on.ensures.stream_goes_on c.broadcasts_go_on.ensures.stream_begins c.given_once_in_order.ensures c.identifiers_are_read_back.ensures c.what_is_written_is_read.ensures c.packet_is_seven_places.ensures.seven

pub returns-clause-once : goal.returns-clause-once
returns-clause-once c = numbered_over c.broadcasts_go_on.ensures.stream_goes_on c.broadcasts_go_on.ensures.stream_begins c.given_once_in_order.ensures c.identifiers_are_read_back.ensures c.what_is_written_is_read.ensures c.packet_is_seven_places.ensures.seven

pub returns-clause-not_own : goal.returns-clause-not_own
returns-clause-not_own c = not_own c.broadcasts_go_on.ensures.stream_goes_on c.broadcasts_go_on.ensures.stream_begins c.given_once_in_order.ensures c.identifiers_are_read_back.ensures c.what_is_written_is_read.ensures c.packet_is_seven_places.ensures.seven
