use Rattle.std.proofs.Common.{sym, eqb-true, arith}
use Rattle.std.proofs.lemmas.Bool.{eq-eqb}
use Rattle.text_lines.proofs.LineFronts.{before_feed_at, before_feed_none}
use Rattle.text_lines.proofs.lines.before_feed.Goals as goal

pub returns-in-Some-clause-value : goal.returns-in-Some-clause-value
returns-in-Some-clause-value c =
    let first = c.in-Some.ensures in
    sym (before_feed_at c.args.bytes.now c.in-Some.at first.0.high (eqb-true _ _ first.1) (λ k below is. first.0.before k (omega arith) below (eq-eqb _ _ is)))

pub returns-in-None-clause-value : goal.returns-in-None-clause-value
returns-in-None-clause-value c = sym (before_feed_none c.args.bytes.now (λ k below is. c.in-None.ensures k (omega arith) below (eq-eqb _ _ is)))
