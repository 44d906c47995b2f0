use Rattle.std.proofs.Common.{sym, ◌∙◌, ap, option_map, arith}
use Rattle.std.specs.Map.Iter.{deref_pair}
use Rattle.log_decode.proofs.Silences.{next_told, silent_all}
use Rattle.log_decode.proofs.silence.tell_silent.Goals as goal

pub loop-at-preserved : goal.loop-at-preserved
loop-at-preserved c =
    let g = sym c.get_index.ensures.entry ∙ ap (option_map deref_pair) c.in-Some.is in
    rw c.in_ok-tell.ensures (next_told c.args.now c.loop-at.at c.args.sessions.now.entries _ c.loop-at.told.items _ c.silence_of.result g c.silence_of.ensures c.loop-at.invariant)

pub returns : goal.returns
returns c = silent_all c.args.now c.loop-at.at c.args.sessions.now.entries c.loop-at.told.items _ (omega arith) c.loop-at.invariant
