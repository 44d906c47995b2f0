use Rattle.port_table.proofs.Numbers.{numbers_rise, numbers_above}
use Rattle.port_table.proofs.laws.numbers_are_never_used_again.Goals as goal

pub returns-clause-rising : goal.returns-clause-rising
returns-clause-rising c = numbers_rise

pub returns-clause-above : goal.returns-clause-above
returns-clause-above c = numbers_above
