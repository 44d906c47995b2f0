-- The events of several calls, part by part.
use Rattle.std.proofs.Common.{◌≡◌, List, [], ◌∷◌, ◌++◌, refl, sym, ◌∙◌, ap}
use Rattle.std.specs.List.{flat_map}
use Rattle.std.proofs.lemmas.Grind.{flat_map-append}
use Rattle.drive_course.specs.Joined.{joined}
use Rattle.message_events.specs.declared.event.Event.{Event}
use Rattle.script_text.specs.Replies.{event_line, event_lines}

pub parts_lines : (parts : List (List Event)) → flat_map event_lines parts ≡ event_lines (joined parts)
parts_lines [] = refl
parts_lines (part ∷ parts) = ap (λ x. event_lines part ++ x) (parts_lines parts) ∙ sym (flat_map-append event_line part (joined parts))
