use Rattle.std.proofs.Common.{◌≡◌, take}
use Rattle.tx_queue.proofs.TxQueue.image.Given as goal

abbrev pub invariant-loop-i : goal.invariant-loop-i
invariant-loop-i l = l.frames.items ≡ take l.i l.self
