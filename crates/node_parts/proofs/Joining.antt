-- The events of one more part.
use Rattle.std.proofs.Common.{◌≡◌, List, [], ◌∷◌, ◌++◌, sym, ap, ◌∙◌, append_assoc}
use Rattle.std.proofs.lemmas.List.{append-nil}
use Rattle.message_events.specs.declared.event.Event.{Event}
use Rattle.node_parts.specs.declared.told.Part.{Part}
use Rattle.node_parts.specs.Told.{part_events, joined}

pub joined_push : (parts : List Part) (part : Part) → joined (parts ++ part ∷ []) ≡ joined parts ++ part_events part
joined_push [] part = append-nil (part_events part)
joined_push (first ∷ parts) part = ap (λ (es : List Event). part_events first ++ es) (joined_push parts part) ∙ sym (append_assoc (part_events first) (joined parts) (part_events part))

-- a part that is kept behind the others
pub kept_behind : (first : List Event) (parts new : List Part) (part : Part) → new ≡ parts ++ part ∷ [] → first ++ joined new ≡ (first ++ joined parts) ++ part_events part
kept_behind first parts new part are =
    ap (λ (ps : List Part). first ++ joined ps) are
    ∙ ap (λ (es : List Event). first ++ es) (joined_push parts part)
    ∙ sym (append_assoc first (joined parts) (part_events part))
