use Rattle.std.proofs.Common.{◌≡◌, map, drop}
use Rattle.script_segments.specs.Plan.{port_of}
use Rattle.script_segments.specs.Gateway.{pgn_of_port}
use Rattle.script_segments.proofs.relay.routing.pgn_of_port.Given as goal

abbrev pub invariant-loop-k : goal.invariant-loop-k
invariant-loop-k l = pgn_of_port (map port_of (drop l.k l.inboxes)) (drop l.k l.calls.items) l.port ≡ pgn_of_port (map port_of l.inboxes) l.calls.items l.port
