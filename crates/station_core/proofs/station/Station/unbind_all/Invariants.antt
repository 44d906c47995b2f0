use Rattle.std.proofs.Common.{◌≡◌, ◌≤◌}
use Rattle.station_core.specs.Closing.{closed_below}
use Rattle.station_core.proofs.station.Station.unbind_all.Given as goal

abbrev pub invariant-loop : goal.invariant-loop
invariant-loop l = (l.self ≡ closed_below l.fn.self l.number l.from) × (l.counter ≤ l.from) × (l.from ≤ 254)
