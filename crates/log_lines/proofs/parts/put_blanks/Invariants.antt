use Rattle.std.proofs.Common.{◌≡◌, ◌++◌, replicate}
use Rattle.log_lines.proofs.parts.put_blanks.Given as goal

abbrev pub invariant-loop-at : goal.invariant-loop-at
invariant-loop-at l = l.out.items ≡ l.fn.out.items ++ replicate l._at 32
