use Rattle.std.proofs.Common.{◌≡◌, ◌++◌, drop, false}
use Rattle.log_lines.specs.Joined.{joined}
use Rattle.log_lines.proofs.lists.put_items.Given as goal

abbrev pub invariant-loop-item : goal.invariant-loop-item
invariant-loop-item g l = l.out.items ++ joined l.later g.T.Listed.listed (drop l.item-index l.items) ≡ l.fn.out.items ++ joined false g.T.Listed.listed l.items
