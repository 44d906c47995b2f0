use Rattle.std.proofs.Common.{◌≡◌, ◌+◌, ◌*◌, length, take}
use Rattle.text_digits.specs.Numerals.{pairs_of}
use Rattle.log_text.proofs.Pairs.{with_front}
use Rattle.log_text.proofs.digits.frame.Given as goal

abbrev pub invariant-loop-first : goal.invariant-loop-first
invariant-loop-first l = record {
  whole : length l.kept ≡ 8;
  so_far : 2 * l.len + length l.rest ≡ length l.digits;
  read : with_front (take l.len l.kept) (pairs_of l.rest) ≡ pairs_of l.digits;
}

abbrev pub decreases-loop-first : goal.decreases-loop-first
decreases-loop-first l = length l.rest
