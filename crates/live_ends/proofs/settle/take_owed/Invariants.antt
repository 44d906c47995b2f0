use Rattle.std.proofs.Common.{◌≡◌, ◌++◌, take, drop}
use Rattle.live_record.specs.Record.{find_owed, without_owed}
use Rattle.live_ends.proofs.settle.take_owed.Given as goal

abbrev pub invariant-loop-i : goal.invariant-loop-i
invariant-loop-i l = record {
  same : l.owed.items ≡ l.initial.owed.items;
  found : find_owed (drop l.i l.owed.items) l.from l.to l.number ≡ find_owed l.owed.items l.from l.to l.number;
  rest : take l.i l.owed.items ++ without_owed (drop l.i l.owed.items) l.from l.to l.number ≡ without_owed l.owed.items l.from l.to l.number;
}
