use Rattle.std.proofs.Common.{◌≡◌, ◌+◌, ◌≤◌, drop}
use Rattle.script_segments.specs.Gateway.{count_to}
use Rattle.script_segments.proofs.relay.routing.count_to.Given as goal

abbrev pub invariant-loop-message : goal.invariant-loop-message
invariant-loop-message l = record {
  counted : l.count + count_to l.station l.pgn (drop l.message-index l.messages) ≡ count_to l.station l.pgn l.messages;
  few : l.count ≤ l.message-index;
}
