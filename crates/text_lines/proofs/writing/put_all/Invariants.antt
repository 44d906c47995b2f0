use Rattle.std.proofs.Common.{◌≤◌, take, length}
use Rattle.std.specs.Io.KnownBytes.{Appends}
use Rattle.text_lines.proofs.writing.put_all.Given as goal

abbrev pub invariant-loop : goal.invariant-loop
invariant-loop g l = record {
  within : l.put ≤ length l.bytes;
  put : Appends (g.W.Write.contents l.fn.writer) (g.W.Write.contents l.writer) (take l.put l.bytes);
}
