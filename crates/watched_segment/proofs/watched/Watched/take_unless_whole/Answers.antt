use Rattle.std.proofs.Common.{ℕ, List, sym, subst}
use Rattle.watched_segment.specs.Calm.{AreCalm}
use Rattle.watched_segment.proofs.Known.{calm_tried}
use Rattle.watched_segment.proofs.watched.Watched.take_unless_whole.Goals as goal

pub invariant_of-self : goal.invariant_of-self
invariant_of-self c =
    subst (λ (ticks : List ℕ). AreCalm ticks c.take_unless_whole.new.self) (sym c.note.ensures)
    (calm_tried c.self.inside.calm.items c.self.inside.segment c.self.invariant c.args.station c.take_unless_whole.new.told c.take_unless_whole.new.self c.take_unless_whole.result c.take_unless_whole.ensures.ok c.take_unless_whole.ensures.whole c.take_unless_whole.ensures.err)
