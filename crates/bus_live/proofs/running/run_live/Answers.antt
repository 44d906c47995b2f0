use Rattle.std.proofs.Common.{sym, subst}
use Rattle.script_runs.proofs.Written.{at_refused, at_run}
use Rattle.script_segments.specs.Plan.{Plan, plan_of, text_of, HasRoom}
use Rattle.bus_live.specs.Ending.{CameTo, planned}
use Rattle.bus_live.proofs.running.run_live.Goals as goal

pub read_script-read-requires : goal.read_script-read-requires
read_script-read-requires g c = subst (λ (p : Plan). HasRoom p 1) (sym c.new-setup.ensures) tt

pub returns-in-Some : goal.returns-in-Some
returns-in-Some g c = at_refused Plan text_of CameTo planned _ _ _ _ (plan_of c.read_script-read.new.planner) _ _ (rw c.new-setup.ensures at c.read_script-read.ensures) c.as_slice.ensures.value (rw c.in-Some.is at c.tell_refused.ensures)

pub returns : goal.returns
returns g c = at_run Plan text_of CameTo planned _ _ _ _ _ (plan_of c.read_script-read.new.planner) _ _ _ (rw c.new-setup.ensures at c.read_script-read.ensures) c.as_slice.ensures.value (rw c.in_default.is at c.tell_refused.ensures) c.run.ensures c.tell_run.ensures
