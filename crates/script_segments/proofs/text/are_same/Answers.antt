use Rattle.std.proofs.Common.{◌∙◌, refl, sym, arith}
use Rattle.std.proofs.lemmas.List.{take_all}
use Rattle.script_segments.proofs.text.are_same.Goals as goal

pub returns : goal.returns
returns c = (λ _. sym (take_all c.loop-i.i c.args.stations.now (omega arith)) ∙ c.loop-i.invariant ∙ take_all c.loop-i.i c.args.others.now (omega arith), λ _. refl)
