use Rattle.std.proofs.Common.{arith}
use Rattle.crossbeam_channel.specs.Claims.{view}
use Rattle.port_relay.proofs.working.pull_turns.Goals as goal

pub returns-then-not-begins-clause-pulled : goal.returns-then-not-begins-clause-pulled
returns-then-not-begins-clause-pulled g c start h =
    c.put_one.ensures.pulled start c.receive_one-ended.new.inbox (c.receive_one-ended.ensures.pulled start (view c.loop-turn.pass) (c.loop-turn.invariant.2 start h))

pub loop-turn-preserved : goal.loop-turn-preserved
loop-turn-preserved g c = (
  c.put_one.ensures.seat,
  c.put_one.ensures.may,
  λ start h. c.put_one.ensures.pulled start c.receive_one-ended.new.inbox (c.receive_one-ended.ensures.pulled start (view c.loop-turn.pass) (c.loop-turn.invariant.2 start h)),
  omega (arith, c.put_one.ensures.count, c.receive_one-ended.ensures.within),
)
