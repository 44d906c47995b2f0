-- The events that wait.
use Rattle.std.specs.Prelude.{ℕ, List, [], ◌∷◌, ◌++◌, Option, Some, None}
use Rattle.message_events.specs.declared.event.Event.{Event}
use Rattle.node_parts.specs.declared.told.Part.{Part}

-- the events, and for those of how many more calls there is a place
pub record Waiting : Type 0 where
  pub events : List Event
  pub free : ℕ

abbrev pub part_events : Part → List Event
part_events part = part.first ∷ part.rest.items

abbrev pub front_events : Option Part → List Event
front_events None = []
front_events (Some part) = part_events part

-- one part after another
abbrev pub joined : List Part → List Event
joined [] = []
joined (part ∷ parts) = part_events part ++ joined parts
