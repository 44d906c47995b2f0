use Rattle.std.proofs.Common.{◌≡◌, length}
use Rattle.text_digits.specs.Numerals.{pairs_of}
use Rattle.script_commands.proofs.Steps.{with_data}
use Rattle.script_commands.proofs.words.data.Given as goal

abbrev pub invariant-loop-first : goal.invariant-loop-first
invariant-loop-first l = with_data l.bytes.items (pairs_of l.rest) ≡ pairs_of l.word

abbrev pub decreases-loop-first : goal.decreases-loop-first
decreases-loop-first l = length l.rest
