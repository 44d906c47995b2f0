use Rattle.std.proofs.Common.{◌≡◌, ◌<◌, ◌^◌, drop}
use Rattle.text_digits.specs.Numerals.{numeral_from}
use Rattle.text_digits.proofs.reading.short_numeral.Given as goal

abbrev pub invariant-loop-byte : goal.invariant-loop-byte
invariant-loop-byte l = record {
  read : numeral_from l.base l.number (drop l.byte-index l.digits) ≡ numeral_from l.base 0 l.digits;
  small : l.number < 16 ^ l.byte-index;
}
