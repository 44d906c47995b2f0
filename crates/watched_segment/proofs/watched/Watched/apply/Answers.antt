use Rattle.std.proofs.Common.{ℕ, List, sym, subst}
use Rattle.segment_law.specs.declared.reply.Reply.{Reply}
use Rattle.watched_segment.specs.Calm.{AreCalm}
use Rattle.watched_segment.proofs.Known.{calm_answered}
use Rattle.watched_segment.proofs.watched.Watched.apply.Goals as goal

pub invariant_of-self : goal.invariant_of-self
invariant_of-self c =
    subst (λ (ticks : List ℕ). AreCalm ticks c.apply.new.self) (sym c.forget_by.ensures)
    (calm_answered c.self.inside.calm.items c.self.inside.segment c.self.invariant (λ (r : Reply). r) c.args.call c.apply.new.self c.apply.result c.apply.ensures.ok c.apply.ensures.err)
