use Rattle.std.proofs.Common.{◌≡◌, ◌≤◌, true, length, sym, ap, ◌∙◌, subst, rules}
use Rattle.std.specs.Vec.{with_items}
use Rattle.bus_order.specs.Bus.{bus_len, frame_at}
use Rattle.bus_order.specs.Abreast.{are_abreast}
use Rattle.std.specs.Prelude.{Some}
use Rattle.segment_law.specs.Segment.{Segment}
use Rattle.drive_course.specs.Taken.{FirstTell}
use Rattle.segment_state.specs.Abreast.{FirstPass}
use Rattle.segment_state.proofs.Together.{inside_together, passed_are, stations_left}
use Rattle.segment_state.proofs.state.SegmentState.take_abreast.Goals as goal

pub invariant_of-self : goal.invariant_of-self
invariant_of-self c =
    let s = c.self.inside in
    let n = c.take_first-taken.result in
    let left = c.take_first-taken.new in
    let tells : FirstTell n c.in-Some.frame c.now-now.result s.stations.items left.stations c.args.course.now left.course s.counts left.counts = rw (← c.deref_mut.ensures.value) c.take_first-taken.ensures.steps in
    inside_together s n c.now-now.result c.in-Some.frame left.stations tells.told c.pass_first.new.self left.counts c.self.invariant tells.steps c.pass_first.ensures.passed

pub returns : goal.returns
returns c =
    let s = c.self.inside in
    let n = c.take_first-taken.result in
    let left = c.take_first-taken.new in
    let tells : FirstTell n c.in-Some.frame c.now-now.result s.stations.items left.stations c.args.course.now left.course s.counts left.counts = rw (← c.deref_mut.ensures.value) c.take_first-taken.ensures.steps in
    let few : n ≤ length s.stations.items = rw (← c.deref_mut.ensures.value) c.take_first-taken.ensures.few in
    let abreast : are_abreast s.bus ≡ true = search rules in
    let newest : frame_at s.bus (bus_len s.bus) ≡ Some c.in-Some.frame = ap (frame_at s.bus) (sym c.len.ensures.value) ∙ sym c.in-Some.ensures in
    let items : (with_items s.stations left.stations).items ≡ left.stations = stations_left s n c.now-now.result c.in-Some.frame left.stations tells.told tells.steps in
    let after : Segment = record { now = s.clock; stations = (with_items s.stations left.stations).items; bus = c.pass_first.new.self; counts = left.counts } in
    subst (λ seg. FirstPass n seg after c.args.course.now left.course) c.self.view_is
    (passed_are s after n c.now-now.result c.in-Some.frame left.stations c.pass_first.new.self c.args.course.now left.course left.counts c.self.invariant c.are_abreast.ensures.sound abreast newest few c.now-now.ensures.value tells c.pass_first.ensures.passed
    (λ k. record { now = s.clock; stations = items k; bus = c.pass_first.new.self; counts = left.counts }))
