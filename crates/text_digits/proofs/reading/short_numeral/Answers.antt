use Rattle.std.proofs.Common.{◌+◌, ◌*◌, ◌<◌, drop, slice_index, sym, ◌∙◌, arith}
use Rattle.std.proofs.lemmas.List.{at_drop_more}
use Rattle.text_digits.specs.Numerals.{numeral_from}
use Rattle.text_digits.proofs.Short.{more_small, few_fit, digit_read}
use Rattle.text_digits.proofs.reading.short_numeral.Goals as goal

pub overflow_mul-number : goal.overflow_mul-number
overflow_mul-number c =
    let v = c.value-digit.result in
    let n = c.loop-byte.number in
    let small : v < c.args.base = omega (arith, c.if-digit-base.false) in
    let more = more_small c.args.base n v c.loop-byte.byte-index c.requires.base small c.loop-byte.invariant.small in
    let fits = few_fit c.loop-byte.byte-index (c.args.base * n + v) (omega (arith, c.loop-byte-test.true, c.requires.short)) more in
    rw c.from.ensures (omega (arith, fits))

pub overflow_add-number : goal.overflow_add-number
overflow_add-number c =
    let v = c.value-digit.result in
    let n = c.loop-byte.number in
    let small : v < c.args.base = omega (arith, c.if-digit-base.false) in
    let more = more_small c.args.base n v c.loop-byte.byte-index c.requires.base small c.loop-byte.invariant.small in
    let fits = few_fit c.loop-byte.byte-index (c.args.base * n + v) (omega (arith, c.loop-byte-test.true, c.requires.short)) more in
    rw (c.from.ensures, c.from-in-loop-byte.ensures) (omega (arith, fits))

pub loop-byte-preserved : goal.loop-byte-preserved
loop-byte-preserved c =
    let v = c.value-digit.result in
    let n = c.loop-byte.number in
    let small : v < c.args.base = omega (arith, c.if-digit-base.false) in
    let more = more_small c.args.base n v c.loop-byte.byte-index c.requires.base small c.loop-byte.invariant.small in
    let fits = few_fit c.loop-byte.byte-index (c.args.base * n + v) (omega (arith, c.loop-byte-test.true, c.requires.short)) more in
    rw (c.from.ensures, c.from-in-loop-byte.ensures) record {
      read = sym (digit_read c.args.base n v (slice_index c.args.digits.now c.loop-byte.byte-index) (drop (c.loop-byte.byte-index + 1) c.args.digits.now) c.value-digit.ensures.value small c.requires.base fits) ∙ sym (at_drop_more (numeral_from c.args.base n) c.args.digits.now c.loop-byte.byte-index 0 c.loop-byte-test.true) ∙ c.loop-byte.invariant.read;
      small = more;
    }
