use Rattle.std.proofs.Common.{◌≡◌, ◌++◌}
use Rattle.script_segments.specs.Texts.{below, given_lines}
use Rattle.script_segments.proofs.text.print_deliveries.Given as goal

abbrev pub invariant-loop-from : goal.invariant-loop-from
invariant-loop-from l = l.out.items ≡ l.fn.out.items ++ below l.from (λ from. below 256 (λ to. given_lines l.fn.port from to l.given))
