use Rattle.std.proofs.Common.{◌≡◌, drop}
use Rattle.bus_decode.specs.Options.{is_among}
use Rattle.bus_decode.proofs.options.is_among.Given as goal

abbrev pub invariant-loop-one : goal.invariant-loop-one
invariant-loop-one l = is_among (drop l.one-index l.named) l.n ≡ is_among l.named l.n
