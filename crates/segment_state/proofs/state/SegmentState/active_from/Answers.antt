use Rattle.std.proofs.Common.{◌≡◌, length, Some, refl, sym, ap, ◌∙◌, subst, get_or}
use Rattle.std.specs.Prelude.{slice_get}
use Rattle.std.proofs.lemmas.Option.{slice_get_read}
use Rattle.tick_timers.specs.Due.{IsDueFrom}
use Rattle.segment_state.specs.Next.{at_tick, is_active}
use Rattle.segment_state.proofs.Calling.{within_here}
use Rattle.segment_state.proofs.Nexts.{calm_nowhere, active_is_from}
use Rattle.segment_state.proofs.state.SegmentState.active_from.Goals as goal

pub returns-in_default : goal.returns-in_default
returns-in_default c = calm_nowhere c.args.self.now c.args.station (sym c.place_of.ensures.value ∙ c.in_default.is)

pub index-at-requires : goal.index-at-requires
index-at-requires c = within_here c.self.inside c.args.self.now c.in-Some.place c.self.view_is c.in-Some.ensures.within

pub returns : goal.returns
returns c =
    let seg = c.args.self.now in
    let i = c.in-Some.place in
    let st = c.index-at.result.now in
    let there : slice_get seg.stations i ≡ Some st = slice_get_read seg.stations (length seg.stations) i st refl c.in-Some.ensures.within (c.index-at.ensures ∙ ap (λ x. get_or x.stations i st) c.self.view_is) in
    subst (IsDueFrom (λ tick. is_active (at_tick seg tick) c.args.station)) (sym c.earlier.ensures)
    (active_is_from seg c.args.station i st (sym c.in-Some.ensures.value) there c.next_due_at.result c.next_pump_at.result c.next_pump_at.ensures.null c.next_due_at.ensures c.next_pump_at.ensures.value)
