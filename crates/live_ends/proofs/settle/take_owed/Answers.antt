use Rattle.std.proofs.Common.{arith}
use Rattle.live_ends.proofs.settle.take_owed.Goals as goal

pub loop-i-smaller : goal.loop-i-smaller
loop-i-smaller c = omega arith
