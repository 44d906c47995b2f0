use Rattle.std.proofs.Common.{arith}
use Rattle.bus_node.proofs.Steps.{went, stood, spent}
use Rattle.bus_node.proofs.node.Node.go_on.Goals as goal

pub returns-then-not-branch : goal.returns-then-not-branch
returns-then-not-branch c = stood _ _ _ _ _ _ c.if-not-branch.true c.loop-left-test.true c.in_ok-step.ensures c.loop-left.invariant

pub loop-left-preserved : goal.loop-left-preserved
loop-left-preserved c = went _ _ _ _ _ _ c.if-not-branch.false c.loop-left-test.true c.in_ok-step.ensures c.loop-left.invariant

pub returns : goal.returns
returns c = spent _ _ _ c.loop-left.left (let f = c.loop-left-test.false in omega (arith, f)) c.loop-left.invariant
