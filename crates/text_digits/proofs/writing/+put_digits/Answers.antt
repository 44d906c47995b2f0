use Rattle.text_digits.proofs.More.{more_digits}
use Rattle.text_digits.proofs.writing.+put_digits.Goals as goal

pub returns : goal.returns
returns t c = more_digits _ _ _ _ _ _ _ c.if-width-eq0.false c.in_ok-put_digits.ensures c.digit_char.ensures c.in_ok-push.ensures.items
