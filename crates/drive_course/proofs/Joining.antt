-- The events of one more call.
use Rattle.std.proofs.Common.{◌≡◌, List, [], ◌∷◌, ◌++◌, sym, ap, ◌∙◌, append_assoc}
use Rattle.std.proofs.lemmas.List.{append-nil}
use Rattle.message_events.specs.declared.event.Event.{Event}
use Rattle.drive_course.specs.Joined.{joined}

pub joined_push : (parts : List (List Event)) (events : List Event) → joined (parts ++ events ∷ []) ≡ joined parts ++ events
joined_push [] events = append-nil events
joined_push (part ∷ parts) events = ap (λ (es : List Event). part ++ es) (joined_push parts events) ∙ sym (append_assoc part (joined parts) events)
