use Rattle.std.proofs.Common.{◌++◌, rules, ◌∙◌, ap, add-one}
use Rattle.log_courses.specs.Rows.{aborts_below, aborts_for}
use Rattle.log_courses.proofs.summary.Summary.aborts_below.Goals as goal

pub loop-at-init : goal.loop-at-init
unfolding aborts_below
loop-at-init c = search rules

pub loop-at-preserved : goal.loop-at-preserved
unfolding aborts_below
loop-at-preserved c = rw add-one ((rw c.aborted.ensures at c.in_ok-put_count.ensures) ∙ ap (λ s. s ++ aborts_for c.args.row c.args.self.now.aborts c.loop-at.at) c.loop-at.invariant)
