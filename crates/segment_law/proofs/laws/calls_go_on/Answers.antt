use Rattle.std.proofs.Common.{refl}
use Rattle.segment_law.proofs.Records.{stands_on, call_goes_on, beginning_stands}
use Rattle.segment_law.proofs.laws.calls_go_on.Goals as goal

pub returns-clause-begins : goal.returns-clause-begins
returns-clause-begins c = λ addresses fit. record { addresses_fit = fit; calls_fit = refl; replies = refl; state = refl }

pub returns-clause-goes_on : goal.returns-clause-goes_on
returns-clause-goes_on c = call_goes_on

pub returns-clause-all_go_on : goal.returns-clause-all_go_on
returns-clause-all_go_on c = stands_on

pub returns-clause-beginnings : goal.returns-clause-beginnings
returns-clause-beginnings c = beginning_stands
