use Rattle.std.proofs.Common.{◌≡◌, ◌+◌, drop}
use Rattle.log_fields.specs.Fields.{spaces_in}
use Rattle.log_fields.proofs.fields.spaces_in.Given as goal

abbrev pub invariant-loop-at : goal.invariant-loop-at
invariant-loop-at l = l.at + spaces_in (drop l.at l.text) ≡ spaces_in l.text
