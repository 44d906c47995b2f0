use Rattle.decode_law.proofs.Connections.{message_heard}
use Rattle.decode_law.proofs.laws.undisturbed_messages_are_heard.Goals as goal

pub returns : goal.returns
returns c = message_heard (record {
  reads = c.what_is_written_is_read.ensures;
  goes_on = c.joined_packets_are_the_message.ensures.goes_on;
  ends = c.joined_packets_are_the_message.ensures.ends;
  seven = c.packet_is_seven_places.ensures.seven;
})
