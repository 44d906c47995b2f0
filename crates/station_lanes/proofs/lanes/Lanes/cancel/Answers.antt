use Rattle.std.proofs.Common.{◌++◌, ◌↔◌, IsSome, IsTrue, None, Some, arith, rules, sym, ap, subst, ◌∙◌}
use Rattle.std.proofs.Math.ListN.{set}
use Rattle.lane_core.specs.declared.step.Ended.{Ended}
use Rattle.lane_core.specs.Cancel.{cancelled}
use Rattle.station_lanes.proofs.LaneLaws.{cancelled_or_kept_to}
use Rattle.station_lanes.proofs.InPlace.{marked_again, there, as_before, stepped_there, stepped_at, left_at, pending_at, aborts_at, kept_there, on_some, if_none}
use Rattle.station_lanes.proofs.lanes.Lanes.cancel.Goals as goal

pub returns-in_default-clause-pending : goal.returns-in_default-clause-pending
returns-in_default-clause-pending c = subst (λ b. IsSome {T = Ended} None ↔ IsTrue b) (sym (pending_at c.self.inside.slots.items c.self.view_is c.from.ensures c.index_mut.ensures.value c.in_default.ensures.value (omega arith) c.args.number)) (search rules)

pub returns-in_default-clause-absent : goal.returns-in_default-clause-absent
returns-in_default-clause-absent c = as_before c.self.inside.slots.items c.self.view_is c.from.ensures c.index_mut.ensures.value c.in_default.ensures.value (omega arith)

pub cancel-ended-requires : goal.cancel-ended-requires
cancel-ended-requires c = record { place = λ e. c.requires (aborts_at c.self.inside.slots.items c.self.view_is c.from.ensures c.index_mut.ensures.value c.in-Some.ensures.value (omega arith) c.args.number ∙ e) }

pub invariant_of-self-2 : goal.invariant_of-self-2
invariant_of-self-2 c =
    marked_again c.self.inside _ c.args.to.0 c.in-Some.lane.now c.cancel-ended.new.self (omega arith) c.self.invariant (there c.self.inside.slots.items c.self.view_is c.from.ensures c.index_mut.ensures.value c.in-Some.ensures.value (omega arith)) (ap (λ n. set c.self.inside.slots.items n (Some c.cancel-ended.new.self)) c.from.ensures)
    (cancelled_or_kept_to c.cancel-ended.result c.in-Some.lane.now c.cancel-ended.new.self c.args.number c.cancel-ended.ensures.lane c.cancel-ended.ensures.none) c.mark.ensures.ready c.mark.ensures.timed

pub returns-clause-pending : goal.returns-clause-pending
returns-clause-pending c = subst (λ b. IsSome c.cancel-ended.result ↔ IsTrue b) (sym (pending_at c.self.inside.slots.items c.self.view_is c.from.ensures c.index_mut.ensures.value c.in-Some.ensures.value (omega arith) c.args.number)) c.cancel-ended.ensures.pending

pub returns-clause-lanes : goal.returns-clause-lanes
returns-clause-lanes c = on_some c.cancel-ended.result (λ e. stepped_there c.self.inside.slots.items c.self.view_is c.from.ensures c.index_mut.ensures.value c.in-Some.ensures.value (omega arith) c.cancel-ended.new.self _ e ∙ sym (stepped_at c.self.inside.slots.items c.self.view_is c.from.ensures c.index_mut.ensures.value c.in-Some.ensures.value (omega arith) (λ lane. cancelled lane c.args.number))) c.cancel-ended.ensures.lane

pub returns-clause-queued : goal.returns-clause-queued
returns-clause-queued c = on_some c.cancel-ended.result (λ e. e ∙ ap (λ s. c.args.queue.now ++ s.frames) (sym (left_at c.self.inside.slots.items c.self.view_is c.from.ensures c.index_mut.ensures.value c.in-Some.ensures.value (omega arith) (λ lane. cancelled lane c.args.number)))) c.cancel-ended.ensures.queued

pub returns-clause-ended : goal.returns-clause-ended
returns-clause-ended c = on_some c.cancel-ended.result (λ e. e ∙ ap (λ s. s.ended) (sym (left_at c.self.inside.slots.items c.self.view_is c.from.ensures c.index_mut.ensures.value c.in-Some.ensures.value (omega arith) (λ lane. cancelled lane c.args.number)))) c.cancel-ended.ensures.ended

pub returns-clause-absent : goal.returns-clause-absent
returns-clause-absent c = if_none c.cancel-ended.result (λ e. kept_there c.self.inside.slots.items c.self.view_is c.from.ensures c.index_mut.ensures.value c.in-Some.ensures.value (omega arith) c.cancel-ended.new.self (ap (λ l. Some l) e)) c.cancel-ended.ensures.none
