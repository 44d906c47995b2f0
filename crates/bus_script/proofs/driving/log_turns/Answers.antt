use Rattle.std.proofs.Common.{◌∙◌, arith}
use Rattle.bus_script.proofs.Logs.{goes_start, goes_on_by, goes_end_by, goes_done}
use Rattle.bus_script.proofs.driving.log_turns.Goals as goal

pub loop-left-init : goal.loop-left-init
loop-left-init c = goes_start _ _ _ _ _

pub loop-left-preserved : goal.loop-left-preserved
loop-left-preserved c = rw c.saturating_add-made.ensures (goes_on_by _ _ _ _ _ _ _ _ _ _ _ _ _ c.loop-left-test.true c.loop-left.invariant (c.ranges.turns).fits c.log_turn.ensures.text c.in_ok-put.ensures.drove c.in-Turns.is)

pub returns-in_default-clause-text : goal.returns-in_default-clause-text
returns-in_default-clause-text c = c.log_turn.ensures.text ∙ c.loop-left.invariant.text

pub returns-in_default-clause-drove : goal.returns-in_default-clause-drove
returns-in_default-clause-drove c = λ found. rw c.saturating_add-made.ensures (goes_end_by _ _ _ _ _ _ _ _ _ _ _ _ _ c.loop-left-test.true c.loop-left.invariant (c.ranges.turns).fits (c.in_ok-put.ensures.drove found) c.in_default.not-Turns)

pub returns-clause-text : goal.returns-clause-text
returns-clause-text c = c.loop-left.invariant.text

pub returns-clause-drove : goal.returns-clause-drove
returns-clause-drove c = λ found. goes_done _ _ _ _ _ _ _ _ _ (let f = c.loop-left-test.false in omega (arith, f)) c.loop-left.invariant
