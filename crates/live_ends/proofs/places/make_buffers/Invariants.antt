use Rattle.std.proofs.Common.{◌≡◌, length}
use Rattle.std.specs.Prelude.{vec_capacity}
use Rattle.live_ends.specs.Places.{AtLeast}
use Rattle.live_ends.proofs.places.make_buffers.Given as goal

abbrev pub invariant-loop : goal.invariant-loop
invariant-loop l = record {
  count : length l.made.items ≡ l.counter;
  capacity : vec_capacity l.made ≡ l.many;
  long : AtLeast l.len l.made.items;
}
