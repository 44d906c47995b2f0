use Rattle.std.proofs.Common.{◌≡◌, ◌≤◌, length, drop}
use Rattle.live_record.specs.Record.{trail}
use Rattle.script_segments.specs.Noted.{all_noted}
use Rattle.script_segments.proofs.text.has_run_out.Given as goal

abbrev pub invariant-loop-client : goal.invariant-loop-client
invariant-loop-client l = record {
  noted : all_noted l.client (drop l.client l.stations) l.messages (trail l.live.addresses l.live.calls) ≡ all_noted 0 l.stations l.messages (trail l.live.addresses l.live.calls);
  clients : l.client ≤ length l.live.clients;
}
