use Rattle.std.proofs.Common.{◌+◌, sym, ap, ◌∙◌, subst, arith}
use Rattle.std.specs.Prelude.{is_some}
use Rattle.tick_timers.specs.Due.{IsDueFrom}
use Rattle.station_lanes.specs.LaneReaders.{least_below, is_pumping}
use Rattle.station_lanes.proofs.Dues.{due_at_first, due_next}
use Rattle.station_lanes.proofs.Resting.{none_pumped}
use Rattle.station_lanes.proofs.lanes.Lanes.next_pump_at.Goals as goal

pub loop-init : goal.loop-init
loop-init c = (omega arith, omega arith, due_at_first (is_pumping c.args.self.now))

pub returns-in_default : goal.returns-in_default
returns-in_default c now within =
    ap is_some (none_pumped c.args.self.now now c.loop.from 256 c.loop.invariant.1 c.in_default.ensures.none) ∙ c.loop.invariant.2 now within

pub loop-preserved : goal.loop-preserved
loop-preserved c =
    let to = c.in-Some.to.0 in
    let test = is_pumping c.args.self.now in
    let some = c.in-Some.ensures.some in
    let before : IsDueFrom (λ now. is_some (least_below (test now) to)) c.loop.tick = λ now within. ap is_some (none_pumped c.args.self.now now c.loop.from to some.0 some.1) ∙ c.loop.invariant.2 now within in (
      omega (arith, some.0, c.from-from.ensures),
      omega (arith, c.from-from.ensures),
      subst (λ n. IsDueFrom (λ now. is_some (least_below (test now) (n + 1))) c.earlier-tick.result) (sym c.from-from.ensures)
          (subst (IsDueFrom (λ now. is_some (least_below (test now) (to + 1)))) (sym c.earlier-tick.ensures)
          (due_next test to c.loop.tick c.pump_due_at.result before c.pump_due_at.ensures)),
    )
