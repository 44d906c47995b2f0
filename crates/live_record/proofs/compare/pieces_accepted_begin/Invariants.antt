use Rattle.std.proofs.Common.{◌≡◌, ◌≤◌, length, take}
use Rattle.live_record.specs.Record.{accepted}
use Rattle.live_record.specs.Past.{joined}
use Rattle.live_record.proofs.compare.pieces_accepted_begin.Given as goal

abbrev pub invariant-loop-at : goal.invariant-loop-at
invariant-loop-at l = record {
  within : l.n ≤ length l.submitted;
  same : take l.n l.submitted ≡ accepted l.client (joined (take l.at l.pieces));
}
