use Rattle.std.proofs.Common.{List, ◌++◌, ◌∙◌, ap}
use Rattle.std.specs.List.{flat_map}
use Rattle.std.proofs.lemmas.List.{take_all}
use Rattle.message_events.specs.declared.event.Event.{Event}
use Rattle.bus_drawing.specs.Notes.{notes}
use Rattle.bus_drawing.proofs.EventNotes.{parts_notes}
use Rattle.bus_drawing.proofs.notes.draw_each_told.Goals as goal

pub returns : goal.returns
returns c =
    let parts : List (List Event) = c.parts-part-items.result.now in
    c.loop-part.invariant ∙ ap (λ (ps : List (List Event)). c.args.out.now.items ++ flat_map notes ps) (take_all c.loop-part.part-index parts c.loop-part-test.false)
    ∙ ap (λ x. c.args.out.now.items ++ x) (parts_notes parts ∙ ap notes c.parts-part-items.ensures)
