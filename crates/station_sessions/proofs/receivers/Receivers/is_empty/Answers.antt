use Rattle.std.proofs.Common.{ap, subst, ◌∙◌}
use Rattle.std.specs.Prelude.{◌==◌}
use Rattle.std.specs.FinMap as map
use Rattle.station_sessions.proofs.Sources.{none_of_empty}
use Rattle.station_sessions.proofs.receivers.Receivers.is_empty.Goals as goal

pub returns-clause-none : goal.returns-clause-none
returns-clause-none c = none_of_empty c.args.self.now c.is_empty.result (c.is_empty.ensures ∙ ap (λ m. map.len m == 0) c.self.view_is)
