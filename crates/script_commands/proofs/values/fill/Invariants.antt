use Rattle.std.proofs.Common.{◌≡◌, ◌≤◌, vec_len}
use Rattle.std.specs.Prelude.{vec_capacity}
use Rattle.script_commands.specs.Values.{filling}
use Rattle.script_commands.proofs.values.fill.Given as goal

abbrev pub invariant-loop-place : goal.invariant-loop-place
invariant-loop-place l = record {
  items : l.bytes.items ≡ filling l.place;
  len : vec_len l.bytes ≡ l.place;
  room : l.len ≤ vec_capacity l.bytes;
}
