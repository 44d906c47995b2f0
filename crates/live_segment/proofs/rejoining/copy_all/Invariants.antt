use Rattle.std.proofs.Common.{◌≡◌, map, take}
use Rattle.live_record.specs.Past.{joined}
use Rattle.live_segment.specs.Rejoining.{call_in}
use Rattle.live_segment.proofs.rejoining.copy_all.Given as goal

abbrev pub invariant-loop-piece : goal.invariant-loop-piece
invariant-loop-piece l = l.calls.items ≡ map call_in (joined (take l.piece-index l.pieces))
