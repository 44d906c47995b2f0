use Rattle.std.proofs.Common.{◌≡◌, ◌+◌, ◌≤◌, drop}
use Rattle.live_ends.specs.Places.{times}
use Rattle.live_ends.proofs.places.count.Given as goal

abbrev pub invariant-loop-other : goal.invariant-loop-other
invariant-loop-other l = record {
  sum : l.times + times l.number (drop l.other-index l.numbers) ≡ times l.number l.numbers;
  few : l.times ≤ l.other-index;
}
