use Rattle.std.proofs.Common.{ℕ, List, sym, subst}
use Rattle.segment_state.specs.Answers.{reply_with}
use Rattle.segment_state.specs.declared.made.Made.{Made}
use Rattle.watched_segment.specs.Calm.{AreCalm}
use Rattle.watched_segment.proofs.Known.{calm_answered}
use Rattle.watched_segment.proofs.watched.Watched.apply_apart.Goals as goal

pub invariant_of-self : goal.invariant_of-self
invariant_of-self c =
    subst (λ (ticks : List ℕ). AreCalm ticks c.apply_apart.new.self) (sym c.forget_by.ensures)
    (calm_answered c.self.inside.calm.items c.self.inside.segment c.self.invariant (λ (m : Made). reply_with m c.apply_apart.new.told) c.args.call c.apply_apart.new.self c.apply_apart.result c.apply_apart.ensures.ok c.apply_apart.ensures.err)
