use Rattle.std.proofs.Common.{◌≡◌, List, [], ◌∷◌, None, refl, sym, ap, ◌∙◌}
use Rattle.std.specs.Option.{option_copied}
use Rattle.std.specs.Prelude.{slice_get}
use Rattle.message_events.specs.declared.event.Event.{Event}
use Rattle.segment_law.specs.Segment.{counted}
use Rattle.segment_law.specs.declared.counts.Counts.{Counts}
use Rattle.drive_course.proofs.counting.count_events.Goals as goal

nothing_told : (counts : Counts) (events : List Event) → slice_get events 0 ≡ None → counts ≡ counted counts events
nothing_told counts [] none = refl
nothing_told counts (e ∷ events) none = absurd cc

pub returns-in_default : goal.returns-in_default
returns-in_default c = nothing_told c.args.counts.now c.args.events.now (sym c.get.ensures ∙ ap (λ o. option_copied o) c.in_default.is)
