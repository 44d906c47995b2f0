use Rattle.std.proofs.Common.{drop}
use Rattle.live_ends.specs.Homes.{AreSilent}
use Rattle.live_ends.proofs.seating.are_silent.Given as goal

abbrev pub invariant-loop-seat : goal.invariant-loop-seat
invariant-loop-seat l = AreSilent l.station.0 (drop l.seat-index l.seats) → AreSilent l.station.0 l.seats
