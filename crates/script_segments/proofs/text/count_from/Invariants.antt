use Rattle.std.proofs.Common.{◌≡◌, ◌+◌, ◌≤◌, drop}
use Rattle.script_segments.specs.Noted.{count_from}
use Rattle.script_segments.proofs.text.count_from.Given as goal

abbrev pub invariant-loop-message : goal.invariant-loop-message
invariant-loop-message l = record {
  counted : l.count + count_from l.station (drop l.message-index l.messages) ≡ count_from l.station l.messages;
  few : l.count ≤ l.message-index;
}
