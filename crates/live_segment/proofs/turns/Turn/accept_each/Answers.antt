use Rattle.live_segment.specs.Turns.{point}
use Rattle.live_segment.proofs.Working.{below_more}
use Rattle.live_segment.proofs.turns.Turn.accept_each.Goals as goal

pub loop-client-preserved : goal.loop-client-preserved
loop-client-preserved c =
    below_more c.loop-client.client c.args.station (point c.args.live.now c.args.self.now) (point c.loop-client.live c.loop-client.self) (point c.accept_one.new.live c.accept_one.new.self) c.loop-client.invariant c.accept_one.ensures
