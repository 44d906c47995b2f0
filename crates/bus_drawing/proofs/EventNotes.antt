-- The events of several calls, part by part.
use Rattle.std.proofs.Common.{◌≡◌, List, [], ◌∷◌, ◌++◌, refl, sym, ◌∙◌, ap}
use Rattle.std.specs.List.{flat_map}
use Rattle.std.proofs.lemmas.Grind.{flat_map-append}
use Rattle.drive_course.specs.Joined.{joined}
use Rattle.message_events.specs.declared.event.Event.{Event}
use Rattle.bus_drawing.specs.Notes.{event_note, notes}

pub parts_notes : (parts : List (List Event)) → flat_map notes parts ≡ notes (joined parts)
parts_notes [] = refl
parts_notes (part ∷ parts) = ap (λ x. notes part ++ x) (parts_notes parts) ∙ sym (flat_map-append event_note part (joined parts))
