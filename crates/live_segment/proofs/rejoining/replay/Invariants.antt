use Rattle.std.proofs.Common.{take}
use Rattle.live_record.specs.Past.{joined}
use Rattle.live_segment.specs.Rejoining.{StandsAfter}
use Rattle.live_segment.proofs.rejoining.replay.Given as goal

abbrev pub invariant-loop-piece : goal.invariant-loop-piece
invariant-loop-piece l = StandsAfter l.addresses (joined (take l.piece-index l.pieces)) l.segment
