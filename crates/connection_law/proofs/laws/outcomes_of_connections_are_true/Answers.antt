use Rattle.std.proofs.Common.{true}
use Rattle.connection_law.proofs.Honest.{told_truly}
use Rattle.connection_law.proofs.laws.outcomes_of_connections_are_true.Goals as goal

pub returns : goal.returns
returns c = told_truly (record {
  broadcasts = c.broadcasts_go_on.ensures.stream_goes_on;
  laws = record { goes_on = c.lanes_go_on.ensures.goes_on; session = c.lanes_go_on.ensures.session; gives = c.identifiers_are_read_back.ensures; reads = c.what_is_written_is_read.ensures; seven = c.packet_is_seven_places.ensures.seven };
  choose = c.outcomes_are_true.ensures.given;
  agree = c.outcomes_are_true.ensures.agree;
  begins = c.lanes_go_on.ensures.begins true;
}) c.each_message_has_one_outcome.ensures
