use Rattle.std.proofs.Common.{◌≡◌, ◌<◌, length, Some, refl, sym, ap, ◌∙◌, subst}
use Rattle.std.specs.Prelude.{slice_get}
use Rattle.segment_law.specs.Segment.{Segment, place_of}
use Rattle.segment_law.specs.Readers.{next_pump}
use Rattle.station_core.specs.Sending as station
use Rattle.segment_state.specs.StateFields.{state_value}
use Rattle.std.proofs.lemmas.Option.{slice_get_read}
use Rattle.segment_state.proofs.Pumping.{next_pump_is}
use Rattle.segment_state.proofs.state.SegmentState.next_pump.Goals as goal

pub returns-in-Some : goal.returns-in-Some
returns-in-Some c =
    let seg : Segment = state_value c.self.inside in
    let view : seg ≡ c.args.self.now = c.self.view_is in
    let i = c.in-Some.place in
    let st = c.index.result.now in
    let here : place_of seg c.args.station ≡ Some i = ap (λ (s : Segment). place_of s c.args.station) view ∙ sym c.place_of.ensures.value ∙ c.in-Some.is in
    let lt : i < length seg.stations = subst (λ (s : Segment). i < length s.stations) (sym view) c.in-Some.ensures.within in
    let there : slice_get seg.stations i ≡ Some st = slice_get_read seg.stations (length seg.stations) i st refl lt c.index.ensures in
    let found = c.next_pump.ensures.value ∙ ap (station.next_pump st) c.now.ensures.value in
    subst (λ (s : Segment). c.next_pump.result ≡ next_pump s c.args.station) view (next_pump_is seg c.args.station i st here there c.next_pump.result c.next_pump.ensures.null found)
