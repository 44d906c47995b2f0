use Rattle.script_segments.proofs.Belows.{none_put, more_put}
use Rattle.script_segments.proofs.text.print_outcomes.Goals as goal

pub loop-to-init : goal.loop-to-init
loop-to-init c = none_put _ _

pub loop-to-preserved : goal.loop-to-preserved
loop-to-preserved c = more_put _ _ _ _ _ c.loop-to.invariant c.in_ok-print_destination.ensures
