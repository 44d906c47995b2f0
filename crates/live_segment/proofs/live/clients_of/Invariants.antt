use Rattle.std.proofs.Common.{◌≡◌, ◌+◌, ◌≤◌, drop, map}
use Rattle.live_segment.specs.LiveView.{clients_at, client_of}
use Rattle.live_segment.proofs.live.clients_of.Given as goal

abbrev pub invariant-loop-seat : goal.invariant-loop-seat
invariant-loop-seat l = record {
  sum : l.count + clients_at l.station (map client_of (drop l.seat-index l.seats)) ≡ clients_at l.station (map client_of l.seats);
  few : l.count ≤ l.seat-index;
}
