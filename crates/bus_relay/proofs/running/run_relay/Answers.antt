use Rattle.std.proofs.Common.{sym, subst}
use Rattle.script_runs.proofs.Written.{at_refused, at_run}
use Rattle.script_segments.specs.Gateway.{Plans, plans_of, text_of, planned, HasRoom}
use Rattle.bus_relay.specs.Ending.{CameTo}
use Rattle.bus_relay.proofs.running.run_relay.Goals as goal

pub read_script-read-requires : goal.read_script-read-requires
read_script-read-requires g c = subst (λ (p : Plans). HasRoom p 1) (sym c.new-gateway.ensures) tt

pub returns-in-Some : goal.returns-in-Some
returns-in-Some g c = at_refused Plans text_of CameTo planned _ _ _ _ (plans_of c.read_script-read.new.planner) _ _ (rw c.new-gateway.ensures at c.read_script-read.ensures) c.as_slice.ensures.value (rw c.in-Some.is at c.tell_refused.ensures)

pub returns : goal.returns
returns g c = at_run Plans text_of CameTo planned _ _ _ _ _ (plans_of c.read_script-read.new.planner) _ _ _ (rw c.new-gateway.ensures at c.read_script-read.ensures) c.as_slice.ensures.value (rw c.in_default.is at c.tell_refused.ensures) c.run.ensures c.tell_run.ensures
