use Rattle.std.proofs.Common.{◌≡◌, ◌≤◌, ◌+◌, ◌-◌, ◌++◌, drop, take}
use Rattle.log_reports.specs.Fields.{fields_from, fields_of}
use Rattle.log_reports.specs.Texts.{field_lines}
use Rattle.log_reports.proofs.texts.field_lines.Given as goal

abbrev pub invariant-loop-at : goal.invariant-loop-at
invariant-loop-at l = record {
  few : l.before ≤ l.start;
  within : l.start ≤ l.at;
  lines : l.lines.items ++ field_lines l.kind (l.before + 1) (fields_from (take (l.at - l.start) (drop l.start l.text)) (drop l.at l.text)) ≡ field_lines l.kind 1 (fields_of l.text);
}
