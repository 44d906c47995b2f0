use Rattle.std.proofs.Common.{◌≡◌, length, Some, refl, sym, ap, ◌∙◌, subst, get_or}
use Rattle.std.specs.Prelude.{slice_get}
use Rattle.std.proofs.lemmas.Option.{slice_get_read}
use Rattle.tick_timers.specs.Due.{IsDueFrom, earlier_of}
use Rattle.segment_state.specs.Next.{at_tick, has_work}
use Rattle.segment_state.proofs.Calling.{within_here}
use Rattle.segment_state.proofs.Nexts.{idle_nowhere, work_is_from}
use Rattle.segment_state.proofs.state.SegmentState.work_from_at.Goals as goal

pub returns-in_default : goal.returns-in_default
returns-in_default c = idle_nowhere c.args.self.now c.args.address (sym c.place_of.ensures.value ∙ c.in_default.is)

pub index-station-requires : goal.index-station-requires
index-station-requires c = within_here c.self.inside c.args.self.now c.in-Some.place c.self.view_is c.in-Some.ensures.within

pub returns : goal.returns
returns c =
    let seg = c.args.self.now in
    let i = c.in-Some.place in
    let st = c.index-station.result.now in
    let there : slice_get seg.stations i ≡ Some st = slice_get_read seg.stations (length seg.stations) i st refl c.in-Some.ensures.within (c.index-station.ensures ∙ ap (λ x. get_or x.stations i st) c.self.view_is) in
    subst (IsDueFrom (λ tick. has_work (at_tick seg tick) c.args.address)) (sym (c.earlier.ensures ∙ ap (earlier_of c.always.result) c.earlier-timed.ensures))
    (work_is_from seg c.args.address i st (sym c.in-Some.ensures.value) there c.moves.result c.always.result c.next_pump_at.result c.next_fire_at.result c.next_pump_at.ensures.null c.moves.ensures c.always.ensures c.next_pump_at.ensures.value c.next_fire_at.ensures)
