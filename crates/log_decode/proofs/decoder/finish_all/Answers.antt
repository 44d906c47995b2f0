use Rattle.std.proofs.Common.{sym, ◌∙◌, ap, option_map, arith}
use Rattle.std.specs.Map.Iter.{deref_pair}
use Rattle.log_decode.proofs.Buses.{ended_on, ended_all}
use Rattle.log_decode.proofs.decoder.finish_all.Goals as goal

pub loop-at-preserved : goal.loop-at-preserved
loop-at-preserved c =
    let g = sym c.get_index.ensures.entry ∙ ap (option_map deref_pair) c.in-Some.is in
    rw c.in_ok-finish.ensures (ended_on c.loop-at.at c.args.buses.now.entries _ c.loop-at.told.items _ g c.loop-at.invariant)

pub returns : goal.returns
returns c = ended_all c.loop-at.at c.args.buses.now.entries c.loop-at.told.items _ (omega arith) c.loop-at.invariant
