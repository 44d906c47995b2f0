use Rattle.std.proofs.Common.{◌≡◌, ◌+◌, not, None, sym, ap, ◌∙◌, subst, arith}
use Rattle.std.specs.Prelude.{is_none}
use Rattle.station_lanes.specs.LaneReaders.{least_below, is_pumping}
use Rattle.station_lanes.proofs.Counting.{none_below, least_is}
use Rattle.station_lanes.proofs.Resting.{none_pumped}
use Rattle.station_lanes.proofs.lanes.Lanes.next_pump.Goals as goal

pub returns-in_default : goal.returns-in_default
returns-in_default c =
    sym (none_pumped c.args.self.now c.args.now c.loop.from 256 c.loop.invariant.1 c.in_default.ensures.none ∙ c.loop.invariant.2)

pub returns-then-is_none : goal.returns-then-is_none
returns-then-is_none c =
    let to = c.in-Some.to.0 in
    let test = is_pumping c.args.self.now c.args.now in
    let some = c.in-Some.ensures.some in
    sym (least_is test to 256 (none_pumped c.args.self.now c.args.now c.loop.from to some.0 some.1 ∙ c.loop.invariant.2) (ap is_none (sym c.pump_refusal.ensures) ∙ ap not c.is_none.ensures ∙ ap (λ b. not (not b)) c.if-is_none.true) (omega arith))

pub loop-preserved : goal.loop-preserved
loop-preserved c =
    let to = c.in-Some.to.0 in
    let test = is_pumping c.args.self.now c.args.now in
    let some = c.in-Some.ensures.some in (
      omega (arith, some.0, c.from-from.ensures),
      omega (arith, c.from-from.ensures),
      subst (λ n. least_below test (n + 1) ≡ None) (sym c.from-from.ensures) (none_below test to (none_pumped c.args.self.now c.args.now c.loop.from to some.0 some.1 ∙ c.loop.invariant.2) (ap is_none (sym c.pump_refusal.ensures) ∙ ap not c.is_none.ensures ∙ ap (λ b. not (not b)) c.if-is_none.false)),
    )
