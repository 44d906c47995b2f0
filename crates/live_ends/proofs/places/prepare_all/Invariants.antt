use Rattle.std.proofs.Common.{take}
use Rattle.live_ends.specs.Ends.{PortsApart, SameDoors}
use Rattle.live_ends.specs.Places.{Prepared}
use Rattle.live_ends.proofs.places.prepare_all.Given as goal

abbrev pub invariant-loop-number : goal.invariant-loop-number
invariant-loop-number l = record {
  same : SameDoors l.initial.doors.items l.doors.items;
  apart : PortsApart l.doors.items;
  ready : Prepared l.station l.numbers (take l.number-index l.numbers) l.doors.items;
}
