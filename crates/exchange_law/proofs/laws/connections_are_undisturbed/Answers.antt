-- The exchange of a message to one station, from the laws of the layers below.
use Rattle.exchange_law.proofs.Quiets.{quiet_exchange}
use Rattle.exchange_law.proofs.laws.connections_are_undisturbed.Goals as goal

pub returns : goal.returns
returns c = quiet_exchange (record {
  gives = c.identifiers_are_read_back.ensures;
  reads = c.what_is_written_is_read.ensures;
  goes_on = c.joined_packets_are_the_message.ensures.goes_on;
  ends = c.joined_packets_are_the_message.ensures.ends;
  seven = c.packet_is_seven_places.ensures.seven;
})
