use Rattle.std.proofs.Common.{◌≡◌, ◌++◌, take}
use Rattle.bus_decode.specs.Telling.{plain_text}
use Rattle.bus_decode.proofs.telling.put_plain.Given as goal

abbrev pub invariant-loop-one : goal.invariant-loop-one
invariant-loop-one l = l.out.items ≡ l.fn.out.items ++ plain_text l.now l.options (take l.one-index l.told)
