use Rattle.std.proofs.Common.{◌≡◌, drop}
use Rattle.text_digits.specs.Numerals.{numeral_from}
use Rattle.text_digits.proofs.reading.long_numeral.Given as goal

abbrev pub invariant-loop-byte : goal.invariant-loop-byte
invariant-loop-byte l = numeral_from l.base l.number (drop l.byte-index l.digits) ≡ numeral_from l.base 0 l.digits
