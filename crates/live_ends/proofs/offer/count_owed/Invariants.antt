use Rattle.std.proofs.Common.{◌≡◌, ◌+◌, ◌≤◌, drop}
use Rattle.live_record.specs.Record.{owed_by}
use Rattle.live_ends.proofs.offer.count_owed.Given as goal

abbrev pub invariant-loop-w : goal.invariant-loop-w
invariant-loop-w l = record {
  sum : l.count + owed_by l.client (drop l.w-index l.owed) ≡ owed_by l.client l.owed;
  few : l.count ≤ l.w-index;
}
