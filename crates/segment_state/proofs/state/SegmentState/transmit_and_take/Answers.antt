use Rattle.std.proofs.Common.{◌≡◌, ℕ, ◌≤◌, length, refl, sym, ap, ◌∙◌, subst, arith}
use Rattle.tx_queue.specs.Queue.{queue_limit}
use Rattle.bus_order.specs.Bus.{Bus, put}
use Rattle.bus_order.proofs.Abreast.{passed_cursors}
use Rattle.segment_state.proofs.AtOnce.{transmit_taken}
use Rattle.segment_state.proofs.Kept.{inside_moved}
use Rattle.segment_state.proofs.state.SegmentState.transmit_and_take.Goals as goal

pub invariant_of-self : goal.invariant_of-self
invariant_of-self c =
    let s = c.self.inside in
    let m = inside_moved s 0 c.pop-transmitted.new.self c.index_mut.result.now c.put_passed.new.self c.self.invariant c.index_mut.ensures.value (ap (λ st. st.address) c.pop-transmitted.ensures.left)
    (ap (λ (b : Bus). length b.cursors) c.put_passed.ensures.passed ∙ passed_cursors 1 (put s.bus c.in-Some-front.frame)) in
    record { few = m.few; cursors = m.cursors; places = m.places; in_place = m.in_place }

pub returns-clause-made : goal.returns-clause-made
returns-clause-made c =
    let zero : c.in-Some.place ≡ 0 = omega arith in
    transmit_taken c.self.inside c.args.self.now c.args.station c.in-Some.place c.index.result.now c.index-2.result.now c.index-3.result.now c.index_mut.result.now c.pop-transmitted.new.self c.in-Some-front.frame c.put_passed.new.self c.count_frame.new.counts _
    c.self.invariant c.self.view_is c.are_level.ensures.sound (sym c.are_level.ensures.value ∙ c.if-not-are_level.false) c.in-Some.ensures.value zero c.in-Some.ensures.within
    c.index.ensures (subst (λ (n : ℕ). n ≤ queue_limit) c.queue_len-at_most_full.ensures.value c.queue_len-at_most_full.ensures.within) c.index-2.ensures c.in-Some-front.ensures c.index-3.ensures (sym c.if-looks_at.ensures)
    c.index_mut.ensures.value c.pop-transmitted.ensures.left c.count_frame.ensures c.put_passed.ensures.passed
    refl
