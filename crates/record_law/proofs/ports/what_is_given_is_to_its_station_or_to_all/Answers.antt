use Rattle.record_law.proofs.ports.Addressed.{to_station_or_all}
use Rattle.record_law.proofs.ports.what_is_given_is_to_its_station_or_to_all.Goals as goal

pub returns : goal.returns
returns c = to_station_or_all
