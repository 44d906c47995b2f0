use Rattle.std.proofs.Common.{◌≡◌, ◌≤◌, true, length, set, sym, ap, ◌∙◌}
use Rattle.std.specs.Vec.{with_item, with_items}
use Rattle.bus_order.specs.Bus.{put}
use Rattle.bus_order.specs.Abreast.{are_level}
use Rattle.drive_course.specs.Taken.{FirstTell}
use Rattle.segment_state.specs.declared.state.SegmentState.TheInside.{Inside}
use Rattle.segment_state.proofs.Together.{inside_together, put_inside, put_together, stations_left}
use Rattle.segment_state.proofs.state.SegmentState.put_abreast.Goals as goal

pub invariant_of-self : goal.invariant_of-self
invariant_of-self c =
    let s = c.self.inside in
    let i = c.in_ok-place.place in
    let popped = c.pop-transmitted.new.self in
    let n = c.take_first-taken.result in
    let frame = c.in_ok-frame.frame in
    let left = c.take_first-taken.new in
    let then : Inside = record s { stations = with_item s.stations i popped; bus = put s.bus frame; counts = c.count_frame.new.counts } in
    let tells : FirstTell n frame c.now-now.result then.stations.items left.stations c.put.new.self left.course c.count_frame.new.counts left.counts = rw (← c.deref_mut.ensures.value) c.take_first-taken.ensures.steps in
    inside_together then n c.now-now.result frame left.stations tells.told c.put_passed.new.self left.counts
    (put_inside s i popped c.index_mut.result.now frame c.count_frame.new.counts c.self.invariant c.index_mut.ensures.value (ap (λ st. st.address) c.pop-transmitted.ensures.left)) tells.steps c.put_passed.ensures.passed

pub returns-clause-put : goal.returns-clause-put
returns-clause-put c =
    let s = c.self.inside in
    let i = c.in_ok-place.place in
    let popped = c.pop-transmitted.new.self in
    let n = c.take_first-taken.result in
    let frame = c.in_ok-frame.frame in
    let left = c.take_first-taken.new in
    let then : Inside = record s { stations = with_item s.stations i popped; bus = put s.bus frame; counts = c.count_frame.new.counts } in
    let tells : FirstTell n frame c.now-now.result (set s.stations.items i popped) left.stations c.put.new.self left.course c.count_frame.new.counts left.counts = rw (← c.deref_mut.ensures.value) c.take_first-taken.ensures.steps in
    let few : n ≤ length (set s.stations.items i popped) = rw (← c.deref_mut.ensures.value) c.take_first-taken.ensures.few in
    let level : are_level s.bus ≡ true = sym c.are_level.ensures.value ∙ c.if-not-are_level.false in
    let items : (with_items then.stations left.stations).items ≡ left.stations = stations_left then n c.now-now.result frame left.stations tells.told tells.steps in
    put_together s c.args.self.now _ c.args.station i n c.now-now.result c.index.result.now c.index_mut.result.now popped frame c.count_frame.new.counts left.counts left.stations c.put_passed.new.self c.args.course.now c.put.new.self left.course
    c.self.invariant c.self.view_is c.are_level.ensures.sound level c.in_ok-place.ensures.value c.in_ok-place.ensures.within c.index.ensures c.in_ok-frame.ensures c.index_mut.ensures.value c.pop-transmitted.ensures.left c.count_frame.ensures
    c.put.ensures.frames c.put.ensures.parts
    few c.now-now.ensures.value tells c.put_passed.ensures.passed
    (λ k. record { now = s.clock; stations = items k; bus = c.put_passed.new.self; counts = left.counts })
