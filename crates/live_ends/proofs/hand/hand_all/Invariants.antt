use Rattle.std.proofs.Common.{◌≡◌, ℕ, drop}
use Rattle.live_ends.specs.Ends.{PortsApart, give_all}
use Rattle.live_ends.specs.Places.{TakesAll, EnoughFor}
use Rattle.live_ends.proofs.hand.hand_all.Given as goal

abbrev pub invariant-loop-event : goal.invariant-loop-event
invariant-loop-event l = record {
  apart : PortsApart l.doors.items;
  takes : TakesAll (drop l.event-index l.events) l.doors.items;
  enough : (n : ℕ) × EnoughFor n (drop l.event-index l.events) l.buffers.items;
  doors : give_all (drop l.event-index l.events) l.doors.items ≡ give_all l.events l.initial.doors.items;
}
