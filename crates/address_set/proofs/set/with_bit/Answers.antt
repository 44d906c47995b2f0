use Rattle.std.proofs.Common.{◌==◌, ap, ◌∙◌, sym}
use Rattle.std.specs.Int.{w64}
use Rattle.std.proofs.lemmas.Nat.Bits.{bit_at_set_same, bit_at_set_other, bit_at_clear_same, bit_at_clear_other}
use Rattle.address_set.proofs.set.with_bit.Goals as goal

pub returns-then-is_in-clause-this : goal.returns-then-is_in-clause-this
returns-then-is_in-clause-this c = ap (λ n. n == 1) (bit_at_set_same w64 c.args.word c.args.at c.requires) ∙ sym c.if-is_in.true

pub returns-then-is_in-clause-others : goal.returns-then-is_in-clause-others
returns-then-is_in-clause-others c i within apart = bit_at_set_other w64 c.args.word c.args.at c.requires i apart

pub returns-else-is_in-clause-this : goal.returns-else-is_in-clause-this
returns-else-is_in-clause-this c = ap (λ n. n == 1) (bit_at_clear_same w64 c.args.word c.args.at c.requires) ∙ sym c.if-is_in.false

pub returns-else-is_in-clause-others : goal.returns-else-is_in-clause-others
returns-else-is_in-clause-others c i within apart = bit_at_clear_other w64 c.args.word c.args.at c.requires i within apart
