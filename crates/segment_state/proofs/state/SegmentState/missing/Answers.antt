use Rattle.std.proofs.Common.{◌≡◌, ◌<◌, length, Some, sym, ap, ◌∙◌, subst}
use Rattle.segment_law.specs.Segment.{Segment}
use Rattle.station_lanes.specs.LaneReaders.{missing_at}
use Rattle.segment_law.specs.Segment.{place_of, station_at}
use Rattle.segment_state.specs.StateFields.{state_value}
use Rattle.segment_state.proofs.Lanes.{station_is, nothing_missing}
use Rattle.segment_state.proofs.state.SegmentState.missing.Goals as goal

pub returns-in-None : goal.returns-in-None
returns-in-None c = nothing_missing c.args.self.now c.args.from c.args.to.0 c.args.self.now.now (sym c.place_of.ensures.value ∙ c.in-None.is)

pub returns-in-Some : goal.returns-in-Some
returns-in-Some c =
    let seg : Segment = state_value c.self.inside in
    let view : seg ≡ c.args.self.now = c.self.view_is in
    let here : place_of seg c.args.from ≡ Some c.in-Some.place = ap (λ (s : Segment). place_of s c.args.from) view ∙ sym c.place_of.ensures.value ∙ c.in-Some.is in
    let lt : c.in-Some.place < length seg.stations = subst (λ (s : Segment). c.in-Some.place < length s.stations) (sym view) c.in-Some.ensures.within in
    let st : station_at seg c.args.from ≡ c.index.result.now = station_is seg c.args.from c.in-Some.place c.index.result.now here lt c.index.ensures in
    let told : c.missing.result ≡ missing_at (station_at seg c.args.from).lanes c.args.to.0 seg.now = c.missing.ensures ∙ (λ i. missing_at (sym st i).lanes c.args.to.0 (c.now.ensures.value i)) in
    subst (λ (s : Segment). c.missing.result ≡ missing_at (station_at s c.args.from).lanes c.args.to.0 s.now) view told
