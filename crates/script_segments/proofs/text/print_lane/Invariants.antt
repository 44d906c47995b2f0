use Rattle.std.proofs.Common.{◌≡◌, ◌++◌, take}
use Rattle.script_segments.specs.Texts.{given_lines}
use Rattle.script_segments.proofs.text.print_lane.Given as goal

abbrev pub invariant-loop-delivery : goal.invariant-loop-delivery
invariant-loop-delivery l = l.out.items ≡ l.fn.out.items ++ given_lines l.fn.port l.from l.to (take l.delivery-index l.given)
