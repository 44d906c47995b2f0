use Rattle.std.proofs.Common.{◌≡◌, drop}
use Rattle.bus_decode.specs.Counts.{with_each}
use Rattle.bus_decode.proofs.counts.Counts.add_each.Given as goal

abbrev pub invariant-loop-one : goal.invariant-loop-one
invariant-loop-one l = with_each l.options l.self (drop l.one-index l.told) ≡ with_each l.options l.fn.self l.told
