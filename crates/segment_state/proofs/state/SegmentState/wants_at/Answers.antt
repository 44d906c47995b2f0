use Rattle.std.proofs.Common.{◌≡◌, false, length, Some, refl, sym, ap, ◌∙◌, get_or}
use Rattle.std.specs.Prelude.{slice_get}
use Rattle.std.proofs.lemmas.Option.{slice_get_read}
use Rattle.segment_law.specs.Calls.{no_place}
use Rattle.segment_state.proofs.Kept.{wanted_is, place_there}
use Rattle.segment_state.proofs.state.SegmentState.wants_at.Goals as goal

pub returns : goal.returns
returns c =
    let there : slice_get c.args.self.now.stations c.args.place ≡ Some c.index-station.result.now =
    slice_get_read c.args.self.now.stations (length c.args.self.now.stations) c.args.place c.index-station.result.now refl c.requires (c.index-station.ensures ∙ ap (λ x. get_or x.stations c.args.place c.index-station.result.now) c.self.view_is) in
    let place : no_place c.index-station.result.now ≡ false = place_there c.free.result c.index-station.result.now c.free.ensures.value c.if-free-eq0.false in
    c.wants.ensures ∙ sym (wanted_is c.args.self.now c.args.place c.index-station.result.now c.in-Some.frame c.args.again there (sym c.in-Some.ensures) place)
