use Rattle.std.proofs.Common.{Some, arith, sym, ap, ◌∙◌}
use Rattle.std.proofs.Math.ListN.{set}
use Rattle.lane_core.specs.Overrun.{overrun}
use Rattle.station_lanes.proofs.LaneLaws.{overrun_to}
use Rattle.station_lanes.proofs.InPlace.{marked_again, there, as_before, stepped_there, stepped_at, left_at}
use Rattle.station_lanes.proofs.lanes.Lanes.overrun.Goals as goal

pub returns-in_default-clause-lanes : goal.returns-in_default-clause-lanes
returns-in_default-clause-lanes c = as_before c.self.inside.slots.items c.self.view_is c.from.ensures c.index_mut.ensures.value c.in_default.ensures.value (omega arith) ∙ sym (stepped_at c.self.inside.slots.items c.self.view_is c.from.ensures c.index_mut.ensures.value c.in_default.ensures.value (omega arith) overrun)

pub returns-in_default-clause-ended : goal.returns-in_default-clause-ended
returns-in_default-clause-ended c = ap (λ s. s.ended) (sym (left_at c.self.inside.slots.items c.self.view_is c.from.ensures c.index_mut.ensures.value c.in_default.ensures.value (omega arith) overrun))

pub returns-in_default-clause-none : goal.returns-in_default-clause-none
returns-in_default-clause-none c = ap (λ s. s.frames) (left_at c.self.inside.slots.items c.self.view_is c.from.ensures c.index_mut.ensures.value c.in_default.ensures.value (omega arith) overrun)

pub invariant_of-self-2 : goal.invariant_of-self-2
invariant_of-self-2 c =
    marked_again c.self.inside _ c.args.to.0 c.in-Some.lane.now c.overrun-ended.new.self (omega arith) c.self.invariant (there c.self.inside.slots.items c.self.view_is c.from.ensures c.index_mut.ensures.value c.in-Some.ensures.value (omega arith)) (ap (λ n. set c.self.inside.slots.items n (Some c.overrun-ended.new.self)) c.from.ensures)
    (ap (λ l. l.to) c.overrun-ended.ensures.lane ∙ overrun_to c.in-Some.lane.now) c.mark.ensures.ready c.mark.ensures.timed

pub returns-clause-lanes : goal.returns-clause-lanes
returns-clause-lanes c = stepped_there c.self.inside.slots.items c.self.view_is c.from.ensures c.index_mut.ensures.value c.in-Some.ensures.value (omega arith) c.overrun-ended.new.self _ c.overrun-ended.ensures.lane ∙ sym (stepped_at c.self.inside.slots.items c.self.view_is c.from.ensures c.index_mut.ensures.value c.in-Some.ensures.value (omega arith) overrun)

pub returns-clause-ended : goal.returns-clause-ended
returns-clause-ended c = c.overrun-ended.ensures.ended ∙ ap (λ s. s.ended) (sym (left_at c.self.inside.slots.items c.self.view_is c.from.ensures c.index_mut.ensures.value c.in-Some.ensures.value (omega arith) overrun))

pub returns-clause-none : goal.returns-clause-none
returns-clause-none c = ap (λ s. s.frames) (left_at c.self.inside.slots.items c.self.view_is c.from.ensures c.index_mut.ensures.value c.in-Some.ensures.value (omega arith) overrun) ∙ c.overrun-ended.ensures.silent
