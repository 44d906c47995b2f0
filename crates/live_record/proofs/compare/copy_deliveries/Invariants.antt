use Rattle.std.proofs.Common.{◌≡◌, take}
use Rattle.live_record.proofs.compare.copy_deliveries.Given as goal

abbrev pub invariant-loop-item : goal.invariant-loop-item
invariant-loop-item l = l.copies.items ≡ take l.item-index l.items
