use Rattle.work_law.proofs.ToAll.{broadcasts_end}
use Rattle.work_law.proofs.laws.broadcasts_end_as_such.Goals as goal

pub returns : goal.returns
returns c = broadcasts_end c.broadcasts_go_on.ensures.stream_goes_on c.identifiers_are_read_back.ensures c.what_is_written_is_read.ensures c.packet_is_seven_places.ensures.seven
