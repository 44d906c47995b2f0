use Rattle.std.proofs.Common.{◌≡◌, ◌+◌, None, sym, ◌∙◌, subst, arith}
use Rattle.station_lanes.specs.LaneReaders.{least_below, is_due_at}
use Rattle.station_lanes.proofs.Counting.{none_below, least_is}
use Rattle.station_lanes.proofs.Resting.{none_due}
use Rattle.station_lanes.proofs.lanes.Lanes.next_due.Goals as goal

pub returns-in_default-clause-value : goal.returns-in_default-clause-value
returns-in_default-clause-value c =
    sym (none_due c.args.self.now c.args.now c.loop.from 256 c.loop.invariant.1 c.in_default.ensures.none ∙ c.loop.invariant.2)

pub returns-then-is_due-clause-value : goal.returns-then-is_due-clause-value
returns-then-is_due-clause-value c =
    let to = c.in-Some.to.0 in
    let test = is_due_at c.args.self.now c.args.now in
    let some = c.in-Some.ensures.some in
    sym (least_is test to 256 (none_due c.args.self.now c.args.now c.loop.from to some.0 some.1 ∙ c.loop.invariant.2) (sym c.is_due.ensures ∙ c.if-is_due.true) (omega arith))

pub loop-preserved : goal.loop-preserved
loop-preserved c =
    let to = c.in-Some.to.0 in
    let test = is_due_at c.args.self.now c.args.now in
    let some = c.in-Some.ensures.some in (
      omega (arith, some.0, c.from-from.ensures),
      omega (arith, c.from-from.ensures),
      subst (λ n. least_below test (n + 1) ≡ None) (sym c.from-from.ensures) (none_below test to (none_due c.args.self.now c.args.now c.loop.from to some.0 some.1 ∙ c.loop.invariant.2) (sym c.is_due.ensures ∙ c.if-is_due.false)),
    )
