use Rattle.std.proofs.Common.{◌≡◌, ◌<◌, length, Some, sym, ap, ◌∙◌, subst}
use Rattle.segment_law.specs.Readers.{lane_seen}
use Rattle.segment_law.specs.Segment.{Segment, place_of, station_at}
use Rattle.station_lanes.specs.LaneReaders.{sight_at}
use Rattle.segment_state.specs.StateFields.{state_value}
use Rattle.segment_state.proofs.Lanes.{station_is, nothing_seen_at}
use Rattle.segment_state.proofs.state.SegmentState.lane.Goals as goal

pub returns-in-None : goal.returns-in-None
returns-in-None c = c.nothing.ensures ∙ nothing_seen_at c.args.self.now c.args.station c.args.to.0 (sym c.place_of.ensures.value ∙ c.in-None.is)

pub returns-in-Some : goal.returns-in-Some
returns-in-Some c =
    let seg : Segment = state_value c.self.inside in
    let view : seg ≡ c.args.self.now = c.self.view_is in
    let here : place_of seg c.args.station ≡ Some c.in-Some.place = ap (λ (s : Segment). place_of s c.args.station) view ∙ sym c.place_of.ensures.value ∙ c.in-Some.is in
    let lt : c.in-Some.place < length seg.stations = subst (λ (s : Segment). c.in-Some.place < length s.stations) (sym view) c.in-Some.ensures.within in
    let st : station_at seg c.args.station ≡ c.index.result.now = station_is seg c.args.station c.in-Some.place c.index.result.now here lt c.index.ensures in
    let seen : c.lane.result ≡ sight_at (station_at seg c.args.station).lanes c.args.to.0 = c.lane.ensures ∙ (λ i. sight_at (sym st i).lanes c.args.to.0) in
    subst (λ (s : Segment). c.lane.result ≡ lane_seen s c.args.station c.args.to) view seen
