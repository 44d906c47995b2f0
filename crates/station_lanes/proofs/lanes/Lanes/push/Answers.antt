use Rattle.std.proofs.Common.{◌≡◌, ◌+◌, ◌≤◌, length, true, Some, IfOk, IfErr, IsErr, OnOk, OnErr, arith, refl, sym, ap, subst, ◌∙◌}
use Rattle.std.proofs.Math.ListN.{set}
use Rattle.std.specs.FinMap as map
use Rattle.lane_core.specs.Lane.{Lane, is_full, longest_to, pushed}
use Rattle.lane_core.specs.Refused.{IsHandedBack}
use Rattle.station_lanes.specs.Lanes.{Lanes}
use Rattle.station_lanes.specs.LaneCalls.{lane_to}
use Rattle.station_lanes.proofs.InPlace.{marked_again, in_order, on_ok, pushed_to, there, got, same_places, as_before, stepped_there, lane_at}
use Rattle.station_lanes.proofs.lanes.Lanes.push.Goals as goal

pub invariant_of-self : goal.invariant_of-self
invariant_of-self c = in_order c.self.inside _ c.self.invariant (same_places c.self.inside.slots.items c.self.view_is c.from.ensures c.index_mut.ensures.value c.in_default.ensures.value (omega arith)) refl refl

pub push_first-requires-clause-absent : goal.push_first-requires-clause-absent
push_first-requires-clause-absent c = ap (λ m. map.get m c.args.to.0) (as_before c.self.inside.slots.items c.self.view_is c.from.ensures c.index_mut.ensures.value c.in_default.ensures.value (omega arith)) ∙ got c.self.inside.slots.items c.self.view_is c.from.ensures c.index_mut.ensures.value c.in_default.ensures.value (omega arith)

pub returns-in_default-clause-number : goal.returns-in_default-clause-number
returns-in_default-clause-number c = subst (λ (m : Lanes). IfOk c.push_first.result (λ n. n ≡ (lane_to c.args.from m c.args.to.0).sent + 1)) (as_before c.self.inside.slots.items c.self.view_is c.from.ensures c.index_mut.ensures.value c.in_default.ensures.value (omega arith)) c.push_first.ensures.number

pub returns-in_default-clause-pushed : goal.returns-in_default-clause-pushed
returns-in_default-clause-pushed c = subst (λ (m : Lanes). OnOk c.push_first.result (c.push_first.new.self ≡ map.insert m c.args.to.0 (pushed (lane_to c.args.from m c.args.to.0) c.args.pgn c.args.bytes))) (as_before c.self.inside.slots.items c.self.view_is c.from.ensures c.index_mut.ensures.value c.in_default.ensures.value (omega arith)) c.push_first.ensures.pushed

pub returns-in_default-clause-refused : goal.returns-in_default-clause-refused
returns-in_default-clause-refused c = subst (λ (m : Lanes). OnErr c.push_first.result (c.push_first.new.self ≡ m)) (as_before c.self.inside.slots.items c.self.view_is c.from.ensures c.index_mut.ensures.value c.in_default.ensures.value (omega arith)) c.push_first.ensures.refused

pub returns-in_default-clause-back : goal.returns-in_default-clause-back
returns-in_default-clause-back c = subst (λ (m : Lanes). IfErr c.push_first.result (IsHandedBack (is_full (lane_to c.args.from m c.args.to.0)) c.args.bytes)) (as_before c.self.inside.slots.items c.self.view_is c.from.ensures c.index_mut.ensures.value c.in_default.ensures.value (omega arith)) c.push_first.ensures.back

pub returns-in_default-clause-full : goal.returns-in_default-clause-full
returns-in_default-clause-full c = subst (λ (m : Lanes). is_full (lane_to c.args.from m c.args.to.0) ≡ true → IsErr c.push_first.result) (as_before c.self.inside.slots.items c.self.view_is c.from.ensures c.index_mut.ensures.value c.in_default.ensures.value (omega arith)) c.push_first.ensures.full

pub push-pushed-requires-clause-most : goal.push-pushed-requires-clause-most
push-pushed-requires-clause-most c = subst (λ n. length c.args.bytes ≤ longest_to n) (sym (c.self.invariant.in_place c.args.to.0 c.in-Some.lane.now (there c.self.inside.slots.items c.self.view_is c.from.ensures c.index_mut.ensures.value c.in-Some.ensures.value (omega arith)))) c.requires.most

pub invariant_of-self-2 : goal.invariant_of-self-2
invariant_of-self-2 c =
    marked_again c.self.inside _ c.args.to.0 c.in-Some.lane.now c.push-pushed.new.self (omega arith) c.self.invariant (there c.self.inside.slots.items c.self.view_is c.from.ensures c.index_mut.ensures.value c.in-Some.ensures.value (omega arith)) (ap (λ n. set c.self.inside.slots.items n (Some c.push-pushed.new.self)) c.from.ensures)
    (pushed_to c.push-pushed.result c.in-Some.lane.now c.push-pushed.new.self c.args.pgn c.args.bytes c.push-pushed.ensures.pushed c.push-pushed.ensures.refused) c.mark.ensures.ready c.mark.ensures.timed

pub returns-clause-number : goal.returns-clause-number
returns-clause-number c = subst (λ (l : Lane). IfOk c.push-pushed.result (λ n. n ≡ l.sent + 1)) (sym (lane_at c.self.inside.slots.items c.self.view_is c.from.ensures c.index_mut.ensures.value c.in-Some.ensures.value (omega arith) c.args.from)) c.push-pushed.ensures.number

pub returns-clause-pushed : goal.returns-clause-pushed
returns-clause-pushed c = on_ok c.push-pushed.result (λ e. stepped_there c.self.inside.slots.items c.self.view_is c.from.ensures c.index_mut.ensures.value c.in-Some.ensures.value (omega arith) c.push-pushed.new.self _ (e ∙ ap (λ (l : Lane). pushed l c.args.pgn c.args.bytes) (sym (lane_at c.self.inside.slots.items c.self.view_is c.from.ensures c.index_mut.ensures.value c.in-Some.ensures.value (omega arith) c.args.from)))) c.push-pushed.ensures.pushed

pub returns-clause-back : goal.returns-clause-back
returns-clause-back c = subst (λ (l : Lane). IfErr c.push-pushed.result (IsHandedBack (is_full l) c.args.bytes)) (sym (lane_at c.self.inside.slots.items c.self.view_is c.from.ensures c.index_mut.ensures.value c.in-Some.ensures.value (omega arith) c.args.from)) c.push-pushed.ensures.back

pub returns-clause-full : goal.returns-clause-full
returns-clause-full c = subst (λ (l : Lane). is_full l ≡ true → IsErr c.push-pushed.result) (sym (lane_at c.self.inside.slots.items c.self.view_is c.from.ensures c.index_mut.ensures.value c.in-Some.ensures.value (omega arith) c.args.from)) c.push-pushed.ensures.full
