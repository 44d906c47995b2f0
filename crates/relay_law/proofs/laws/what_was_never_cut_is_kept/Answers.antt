use Rattle.relay_law.proofs.Chained.{uncut_kept}
use Rattle.relay_law.proofs.laws.what_was_never_cut_is_kept.Goals as goal

pub returns : goal.returns
returns c = uncut_kept
