use Rattle.std.proofs.Common.{sym, ◌∙◌, ap, option_map, arith}
use Rattle.std.specs.Map.Iter.{deref_pair}
use Rattle.log_decode.proofs.Due.{walked, walked_all, from_zero}
use Rattle.log_decode.proofs.silence.next_due.Goals as goal

pub returns-in_default : goal.returns-in_default
returns-in_default c = from_zero c.args.sessions.now.entries

pub loop-at-preserved : goal.loop-at-preserved
loop-at-preserved c =
    let g = sym c.get_index.ensures.entry ∙ ap (option_map deref_pair) c.in-Some.is in
    walked c.loop-at.due _ c.loop-at.at c.args.sessions.now.entries _ g (omega arith) (omega (arith, c.due.ensures)) c.loop-at.invariant

pub returns : goal.returns
returns c = walked_all c.loop-at.due c.loop-at.at c.args.sessions.now.entries (omega arith) c.loop-at.invariant
