use Rattle.std.proofs.Common.{sym, ◌∙◌, ap, option_map, arith}
use Rattle.std.specs.Map.Iter.{deref_pair}
use Rattle.log_decode.specs.declared.session.Fate.TheVariants.{Lost}
use Rattle.log_decode.proofs.Silences.{losses_on, losses_all}
use Rattle.log_decode.proofs.sessions.tell_all.Goals as goal

pub loop-at-preserved : goal.loop-at-preserved
loop-at-preserved c =
    let g = sym c.get_index.ensures.entry ∙ ap (option_map deref_pair) c.in-Some.is in
    rw c.in_ok-push.ensures.items (losses_on (Lost c.args.cause) c.loop-at.at c.args.sessions.now.entries _ c.loop-at.told.items c.lost.result _ g c.lost.ensures c.loop-at.invariant)

pub returns : goal.returns
returns c = losses_all (Lost c.args.cause) c.loop-at.at c.args.sessions.now.entries c.loop-at.told.items _ (omega arith) c.loop-at.invariant
