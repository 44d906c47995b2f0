use Rattle.std.proofs.Common.{Some, arith, sym, ap, ◌∙◌}
use Rattle.std.proofs.Math.ListN.{set}
use Rattle.lane_core.specs.Answer.{answered}
use Rattle.lane_core.specs.Step.{nothing_to_do}
use Rattle.station_lanes.proofs.LaneLaws.{answered_to}
use Rattle.station_lanes.proofs.InPlace.{marked_again, there, as_before, stepped_there, stepped_at}
use Rattle.station_lanes.proofs.lanes.Lanes.answer.Goals as goal

pub returns-in_default : goal.returns-in_default
returns-in_default c = as_before c.self.inside.slots.items c.self.view_is c.from.ensures c.index_mut.ensures.value c.in_default.ensures.value (omega arith) ∙ sym (stepped_at c.self.inside.slots.items c.self.view_is c.from.ensures c.index_mut.ensures.value c.in_default.ensures.value (omega arith) (λ lane. (answered lane c.args.pgn, nothing_to_do)))

pub invariant_of-self-2 : goal.invariant_of-self-2
invariant_of-self-2 c =
    marked_again c.self.inside _ c.args.to.0 c.in-Some.lane.now c.answer.new.self (omega arith) c.self.invariant (there c.self.inside.slots.items c.self.view_is c.from.ensures c.index_mut.ensures.value c.in-Some.ensures.value (omega arith)) (ap (λ n. set c.self.inside.slots.items n (Some c.answer.new.self)) c.from.ensures)
    (ap (λ l. l.to) c.answer.ensures ∙ answered_to c.in-Some.lane.now c.args.pgn) c.mark.ensures.ready c.mark.ensures.timed

pub returns : goal.returns
returns c = stepped_there c.self.inside.slots.items c.self.view_is c.from.ensures c.index_mut.ensures.value c.in-Some.ensures.value (omega arith) c.answer.new.self _ c.answer.ensures ∙ sym (stepped_at c.self.inside.slots.items c.self.view_is c.from.ensures c.index_mut.ensures.value c.in-Some.ensures.value (omega arith) (λ lane. (answered lane c.args.pgn, nothing_to_do)))
