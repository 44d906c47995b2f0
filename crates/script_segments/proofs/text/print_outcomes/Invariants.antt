use Rattle.std.proofs.Common.{◌≡◌, ◌++◌, suc}
use Rattle.script_segments.specs.Texts.{below, numbered_lines, highest}
use Rattle.script_segments.proofs.text.print_outcomes.Given as goal

abbrev pub invariant-loop-to : goal.invariant-loop-to
invariant-loop-to l = l.out.items ≡ l.fn.out.items ++ below l.to (λ to. below (suc (highest l.notes)) (λ number. numbered_lines l.fn.from to number l.notes))
