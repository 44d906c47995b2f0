use Rattle.std.proofs.Common.{◌≡◌, ◌++◌, take}
use Rattle.json.specs.Print.{escape}
use Rattle.log_lines.proofs.strings.put_each.Given as goal

abbrev pub invariant-loop-byte : goal.invariant-loop-byte
invariant-loop-byte l = l.out.items ≡ l.fn.out.items ++ escape (take l.byte-index l.text)
