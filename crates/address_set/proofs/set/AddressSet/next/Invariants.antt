use Rattle.std.proofs.Common.{◌*◌}
use Rattle.address_set.specs.Sets.{HasNone}
use Rattle.address_set.proofs.set.AddressSet.next.Given as goal

-- none stands in the words before
abbrev pub invariant-loop-place : goal.invariant-loop-place
invariant-loop-place l = HasNone l.self l.fn.from (64 * l.place)
