use Rattle.std.proofs.Common.{◌≤◌, arith, length-append}
use Rattle.originator.proofs.Packets.{pushed_more}
use Rattle.originator.proofs.sending.Sending.queue_packets.Goals as goal

pub loop-k-preserved : goal.loop-k-preserved
loop-k-preserved c =
    let from : c.args.self.now.at ≤ c.loop-k.k = rw (← c.self.view_is) c.loop-k.auto.k in
    (pushed_more c.self.inside.link _ _ _ _ _ _ _ _ from c.loop-k.invariant.0 c.packet_frame.ensures c.push_free.ensures, rw (c.push_free.ensures, length-append) (omega arith))
