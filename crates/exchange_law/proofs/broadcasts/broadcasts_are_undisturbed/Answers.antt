use Rattle.exchange_law.proofs.broadcasts.Quiets.{quiet_exchange}
use Rattle.exchange_law.proofs.broadcasts.broadcasts_are_undisturbed.Goals as goal

pub returns : goal.returns
returns c = quiet_exchange c.identifiers_are_read_back.ensures c.what_is_written_is_read.ensures c.joined_packets_are_the_message.ensures.goes_on c.joined_packets_are_the_message.ensures.ends c.packet_is_seven_places.ensures.seven
