use Rattle.std.proofs.Common.{◌≡◌, ◌++◌}
use Rattle.script_segments.specs.Texts.{below, given_lines}
use Rattle.script_segments.proofs.text.print_sender.Given as goal

abbrev pub invariant-loop-to : goal.invariant-loop-to
invariant-loop-to l = l.out.items ≡ l.fn.out.items ++ below l.to (λ to. given_lines l.fn.port l.from to l.given)
