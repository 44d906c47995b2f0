-- The law, from those of the layers below.
use Rattle.drain_law.proofs.Beginnings.{new_ready}
use Rattle.drain_law.proofs.Wholes.{end_by_destination}
use Rattle.drain_law.proofs.laws.each_message_ends_by_its_destination.Goals as goal

pub returns : goal.returns
returns c = record {
  ends = end_by_destination c.work_falls.ensures c.overruns_fall.ensures (record {
    gives = c.identifiers_are_read_back.ensures;
    reads = c.what_is_written_is_read.ensures;
    goes_on = c.joined_packets_are_the_message.ensures.goes_on;
    ends = c.joined_packets_are_the_message.ensures.ends;
    seven = c.packet_is_seven_places.ensures.seven;
  });
  first = new_ready;
}
