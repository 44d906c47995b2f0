use Rattle.std.proofs.Common.{◌≡◌, take}
use Rattle.tx_queue.proofs.image.QueueImage.is_of.Given as goal

abbrev pub invariant-loop-i : goal.invariant-loop-i
invariant-loop-i l = take l.i l.self ≡ take l.i l.queue
