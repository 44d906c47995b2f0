use Rattle.std.proofs.Common.{take}
use Rattle.live_ends.specs.Ends.{NoneAt}
use Rattle.live_ends.proofs.places.door_of.Given as goal

abbrev pub invariant-loop-k : goal.invariant-loop-k
invariant-loop-k l = NoneAt l.port (take l.k l.doors)
