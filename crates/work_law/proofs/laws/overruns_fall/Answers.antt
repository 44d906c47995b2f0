use Rattle.work_law.proofs.Along.{overruns_fall}
use Rattle.work_law.proofs.laws.overruns_fall.Goals as goal

pub returns : goal.returns
returns c = overruns_fall c.broadcasts_go_on.ensures.stream_goes_on c.identifiers_are_read_back.ensures c.what_is_written_is_read.ensures c.packet_is_seven_places.ensures.seven
