-- The law, from those of the layers below.
use Rattle.drain_law.proofs.Unheard.{none_answers, rest_is_unheard}
use Rattle.drain_law.proofs.laws.unheard_nodes_never_answer.Goals as goal

pub returns : goal.returns
returns c = record {
  answers = none_answers c.broadcasts_go_on.ensures.stream_goes_on c.identifiers_are_read_back.ensures c.what_is_written_is_read.ensures c.packet_is_seven_places.ensures.seven;
  rest = rest_is_unheard;
}
