use Rattle.std.proofs.Common.{◌≡◌, drop}
use Rattle.node_parts.proofs.echoes.drop_oldest.Given as goal

abbrev pub invariant-loop : goal.invariant-loop
invariant-loop l = l.frames.items ≡ drop l.counter l.fn.frames.items
