use Rattle.std.proofs.Common.{◌≡◌, ℕ, List, replicate, sym, subst}
use Rattle.watched_segment.specs.Calm.{AreCalm}
use Rattle.watched_segment.proofs.Known.{none_calm}
use Rattle.watched_segment.proofs.watched.Watched.new.Goals as goal

pub invariant_of-result : goal.invariant_of-result
invariant_of-result c =
    let none : c.in_ok-calm.calm.items ≡ replicate 256 0 = c.in_ok-calm.ensures.items_if_clones_equal (λ y same. same) in
    subst (λ (ticks : List ℕ). AreCalm ticks c.args.segment) (sym none) (none_calm 256 c.args.segment)
