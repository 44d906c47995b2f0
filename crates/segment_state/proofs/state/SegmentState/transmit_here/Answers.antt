use Rattle.std.proofs.Common.{◌≡◌, false, sym, ap, ◌∙◌}
use Rattle.std.specs.Prelude.{is_err}
use Rattle.bus_order.specs.Bus.{is_full}
use Rattle.segment_state.proofs.Kept.{inside_kept, said}
use Rattle.segment_state.proofs.Calling.{had_room, transmits_here}
use Rattle.segment_state.proofs.state.SegmentState.transmit_here.Goals as goal

pub invariant_of-self : goal.invariant_of-self
invariant_of-self c =
    inside_kept c.self-2.inside c.in-Some.place c.pop-transmitted.new.self c.index_mut.result.now c.self-2.invariant c.index_mut.ensures.value (ap (λ st. st.address) c.pop-transmitted.ensures.left)

pub returns-clause-answer : goal.returns-clause-answer
returns-clause-answer c =
    let free : is_full c.args.self.now.bus ≡ false = had_room c.put.result (is_full c.args.self.now.bus) (ap is_err c.in-Ok.is) c.put.ensures.full in
    transmits_here c.self.inside c.self-2.inside c.args.self.now c.args.station c.in-Some.place c.index.result.now c.index_mut.result.now c.pop-transmitted.new.self c.in-Some-front.frame
    c.self.view_is c.in-Some.ensures.value c.in-Some.ensures.within c.index.ensures c.in-Some-front.ensures free (c.self-2.view_is ∙ c.in-Ok.ensures.ok) c.index_mut.ensures.value c.pop-transmitted.ensures.left
