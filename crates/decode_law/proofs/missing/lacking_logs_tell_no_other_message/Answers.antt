use Rattle.decode_law.proofs.Lacking.{lacking_logs}
use Rattle.decode_law.proofs.missing.lacking_logs_tell_no_other_message.Goals as goal

pub returns : goal.returns
returns c = lacking_logs (record {
  reads = c.what_is_written_is_read.ensures;
  goes_on = c.joined_packets_are_the_message.ensures.goes_on;
  ends = c.joined_packets_are_the_message.ensures.ends;
  seven = c.packet_is_seven_places.ensures.seven;
})
