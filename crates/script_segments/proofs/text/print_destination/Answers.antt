use Rattle.script_segments.proofs.Belows.{none_put, more_put, last_put}
use Rattle.script_segments.proofs.text.print_destination.Goals as goal

pub loop-number-init : goal.loop-number-init
loop-number-init c = none_put _ _

pub loop-number-preserved : goal.loop-number-preserved
loop-number-preserved c = more_put _ _ _ _ _ c.loop-number.invariant c.in_ok-print_numbered.ensures

pub returns : goal.returns
returns c = last_put _ _ _ _ _ _ _ c.loop-number.auto.number-end c.loop-number-test.false c.highest-top.ensures c.loop-number.invariant c.in_ok-print_numbered-2.ensures
