use Rattle.std.proofs.Common.{◌≡◌, sym, subst}
use Rattle.log_text.specs.Reading.{before_return}
use Rattle.log_text.proofs.Bare.{stays_bare}
use Rattle.log_text.proofs.reading.before_return.Goals as goal

pub returns-then-last-ne13 : goal.returns-then-last-ne13
returns-then-last-ne13 c =
    subst (λ line. line ≡ before_return line) (sym c.in-Some.ensures.cases.0) (sym (stays_bare c.in-Some.field-0-1.now c.in-Some.last.now c.if-last-ne13.true))
