use Rattle.script_segments.proofs.Belows.{none_put, more_put}
use Rattle.script_segments.proofs.text.print_deliveries.Goals as goal

pub loop-from-init : goal.loop-from-init
loop-from-init c = none_put _ _

pub loop-from-preserved : goal.loop-from-preserved
loop-from-preserved c = more_put _ _ _ _ _ c.loop-from.invariant c.in_ok-print_sender.ensures
