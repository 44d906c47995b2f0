use Rattle.std.proofs.Common.{true}
use Rattle.restart_law.proofs.Sentence.{sentence}
use Rattle.restart_law.proofs.laws.messages_hold_from_a_moment.Goals as goal

pub returns : goal.returns
returns c s d before_s since_s before_d since_d bus distinct are room first second start = sentence c.the_headline_holds_at_any_clock.ensures c.each_send_is_answered_its_number.ensures (record {
  broadcasts = c.broadcasts_go_on.ensures.stream_goes_on;
  laws = record { goes_on = c.lanes_go_on.ensures.goes_on; session = c.lanes_go_on.ensures.session; gives = c.identifiers_are_read_back.ensures; reads = c.what_is_written_is_read.ensures; seven = c.packet_is_seven_places.ensures.seven };
  choose = c.outcomes_are_true.ensures.given;
  agree = c.outcomes_are_true.ensures.agree;
  begins = c.lanes_go_on.ensures.begins true;
}) c.broadcasts_go_on.ensures.stream_begins c.given_once_in_order.ensures s d before_s since_s before_d since_d bus distinct are room first second start
