use Rattle.record_law.proofs.ports.Within.{within_life}
use Rattle.record_law.proofs.ports.what_is_given_is_within_the_life_of_its_port.Goals as goal

pub returns : goal.returns
returns c = within_life
