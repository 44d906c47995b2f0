use Rattle.std.proofs.Common.{◌≡◌, ◌++◌, map, take}
use Rattle.live_segment.specs.Rejoining.{call_in}
use Rattle.live_segment.proofs.rejoining.copy_behind.Given as goal

abbrev pub invariant-loop-at : goal.invariant-loop-at
invariant-loop-at l = l.calls.items ≡ l.fn.calls.items ++ map call_in (take l.at l.stored.items)
