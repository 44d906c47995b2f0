use Rattle.std.proofs.Common.{◌≡◌, ◌+◌, ◌≤◌, drop}
use Rattle.bus_relay.specs.Carriages.{place_of}
use Rattle.bus_relay.proofs.settling.place_of.Given as goal

abbrev pub invariant-loop-other : goal.invariant-loop-other
invariant-loop-other l = record {
  counted : l.place + place_of l.station (drop l.other-index l.stations) ≡ place_of l.station l.stations;
  few : l.place ≤ l.other-index;
}
