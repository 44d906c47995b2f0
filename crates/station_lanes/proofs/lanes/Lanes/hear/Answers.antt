use Rattle.std.proofs.Common.{◌++◌, Some, arith, rules, sym, ap, ◌∙◌}
use Rattle.std.proofs.Math.ListN.{set}
use Rattle.lane_core.specs.Hear.{heard}
use Rattle.station_lanes.proofs.LaneLaws.{heard_to}
use Rattle.station_lanes.proofs.InPlace.{marked_again, there, as_before, stepped_there, stepped_at, left_at}
use Rattle.station_lanes.proofs.lanes.Lanes.hear.Goals as goal

pub returns-in_default-clause-lanes : goal.returns-in_default-clause-lanes
returns-in_default-clause-lanes c = as_before c.self.inside.slots.items c.self.view_is c.from.ensures c.index_mut.ensures.value c.in_default.ensures.value (omega arith) ∙ sym (stepped_at c.self.inside.slots.items c.self.view_is c.from.ensures c.index_mut.ensures.value c.in_default.ensures.value (omega arith) (λ lane. heard lane c.args.wire.now c.args.now))

pub returns-in_default-clause-queued : goal.returns-in_default-clause-queued
returns-in_default-clause-queued c = search rules ∙ ap (λ s. c.args.queue.now ++ s.frames) (sym (left_at c.self.inside.slots.items c.self.view_is c.from.ensures c.index_mut.ensures.value c.in_default.ensures.value (omega arith) (λ lane. heard lane c.args.wire.now c.args.now)))

pub returns-in_default-clause-ended : goal.returns-in_default-clause-ended
returns-in_default-clause-ended c = ap (λ s. s.ended) (sym (left_at c.self.inside.slots.items c.self.view_is c.from.ensures c.index_mut.ensures.value c.in_default.ensures.value (omega arith) (λ lane. heard lane c.args.wire.now c.args.now)))

pub invariant_of-self-2 : goal.invariant_of-self-2
invariant_of-self-2 c =
    marked_again c.self.inside _ c.args.to.0 c.in-Some.lane.now c.hear-ended.new.self (omega arith) c.self.invariant (there c.self.inside.slots.items c.self.view_is c.from.ensures c.index_mut.ensures.value c.in-Some.ensures.value (omega arith)) (ap (λ n. set c.self.inside.slots.items n (Some c.hear-ended.new.self)) c.from.ensures)
    (ap (λ l. l.to) c.hear-ended.ensures.lane ∙ heard_to c.in-Some.lane.now c.args.wire.now c.args.now) c.mark_after.ensures.ready c.mark_after.ensures.timed

pub returns-clause-lanes : goal.returns-clause-lanes
returns-clause-lanes c = stepped_there c.self.inside.slots.items c.self.view_is c.from.ensures c.index_mut.ensures.value c.in-Some.ensures.value (omega arith) c.hear-ended.new.self _ c.hear-ended.ensures.lane ∙ sym (stepped_at c.self.inside.slots.items c.self.view_is c.from.ensures c.index_mut.ensures.value c.in-Some.ensures.value (omega arith) (λ lane. heard lane c.args.wire.now c.args.now))

pub returns-clause-queued : goal.returns-clause-queued
returns-clause-queued c = c.hear-ended.ensures.queued ∙ ap (λ s. c.args.queue.now ++ s.frames) (sym (left_at c.self.inside.slots.items c.self.view_is c.from.ensures c.index_mut.ensures.value c.in-Some.ensures.value (omega arith) (λ lane. heard lane c.args.wire.now c.args.now)))

pub returns-clause-ended : goal.returns-clause-ended
returns-clause-ended c = c.hear-ended.ensures.ended ∙ ap (λ s. s.ended) (sym (left_at c.self.inside.slots.items c.self.view_is c.from.ensures c.index_mut.ensures.value c.in-Some.ensures.value (omega arith) (λ lane. heard lane c.args.wire.now c.args.now)))
