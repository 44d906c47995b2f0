use Rattle.std.proofs.Common.{◌≡◌, drop}
use Rattle.script_commands.specs.Words.{is_ascii}
use Rattle.script_commands.proofs.words.is_ascii.Given as goal

abbrev pub invariant-loop-byte : goal.invariant-loop-byte
invariant-loop-byte l = is_ascii (drop l.byte-index l.line) ≡ is_ascii l.line
