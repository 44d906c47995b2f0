use Rattle.std.proofs.Common.{◌++◌, List, take}
use Rattle.pgn_ids.specs.declared.address.Address.{Address}
use Rattle.stored_calls.specs.declared.stored.Stored.{Stored}
use Rattle.live_segment.specs.Rejoining.{StandsAfter}
use Rattle.live_segment.proofs.rejoining.make_all.Given as goal

abbrev pub invariant-loop-at : goal.invariant-loop-at
invariant-loop-at l = (addresses : List Address) (made : List Stored) → StandsAfter addresses made l.fn.segment → StandsAfter addresses (made ++ take l.at l.calls.items) l.segment
