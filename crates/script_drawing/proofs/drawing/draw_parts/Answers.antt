use Rattle.std.proofs.Common.{List, ◌++◌, ◌∙◌, ap}
use Rattle.std.specs.List.{flat_map}
use Rattle.std.proofs.lemmas.List.{take_all}
use Rattle.message_events.specs.declared.event.Event.{Event}
use Rattle.bus_drawing.specs.Notes.{notes}
use Rattle.bus_drawing.proofs.EventNotes.{parts_notes}
use Rattle.script_drawing.proofs.drawing.draw_parts.Goals as goal

pub returns : goal.returns
returns c =
    let parts : List (List Event) = c.args.parts.now in
    c.loop-part.invariant ∙ ap (λ (ps : List (List Event)). c.args.out.now.items ++ flat_map notes ps) (take_all c.loop-part.part-index parts c.loop-part-test.false)
    ∙ ap (λ x. c.args.out.now.items ++ x) (parts_notes parts)
