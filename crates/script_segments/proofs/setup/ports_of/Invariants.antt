use Rattle.std.proofs.Common.{◌≡◌, map, take}
use Rattle.script_segments.specs.Plan.{port_of}
use Rattle.script_segments.proofs.setup.ports_of.Given as goal

abbrev pub invariant-loop-inbox : goal.invariant-loop-inbox
invariant-loop-inbox l = l.ports.items ≡ map port_of (take l.inbox-index l.inboxes)
