use Rattle.std.proofs.Common.{◌≡◌, ◌+◌, ◌≤◌, length, drop}
use Rattle.live_record.specs.Record.{accepted}
use Rattle.live_record.proofs.compare.count_accepted.Given as goal

abbrev pub invariant-loop-at : goal.invariant-loop-at
invariant-loop-at l = record {
  sum : l.count + length (accepted l.client (drop l.at l.calls.items)) ≡ length (accepted l.client l.calls.items);
  few : l.count ≤ l.at;
}
