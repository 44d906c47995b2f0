use Rattle.std.proofs.Common.{◌≡◌, ◌++◌, take}
use Rattle.std.specs.List.{flat_map}
use Rattle.frame_arrows.specs.Opening.{participant_line}
use Rattle.frame_arrows.proofs.opening.draw_participants.Given as goal

abbrev pub invariant-loop-station : goal.invariant-loop-station
invariant-loop-station l = l.out.items ≡ l.fn.out.items ++ flat_map participant_line (take l.station-index l.stations)
