-- The events of several calls.
use Rattle.std.specs.Prelude.{List, [], ◌∷◌, ◌++◌}
use Rattle.message_events.specs.declared.event.Event.{Event}

-- the events of all parts, one after another
abbrev pub joined : List (List Event) → List Event
joined [] = []
joined (events ∷ parts) = events ++ joined parts
