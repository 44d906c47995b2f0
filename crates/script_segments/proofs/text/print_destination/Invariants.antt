use Rattle.std.proofs.Common.{◌≡◌, ◌++◌}
use Rattle.script_segments.specs.Texts.{below, numbered_lines}
use Rattle.script_segments.proofs.text.print_destination.Given as goal

abbrev pub invariant-loop-number : goal.invariant-loop-number
invariant-loop-number l = l.out.items ≡ l.fn.out.items ++ below l.number (λ number. numbered_lines l.fn.from l.to number l.notes)
