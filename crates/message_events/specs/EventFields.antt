-- The events of one call as they are kept.
use Rattle.std.specs.Prelude.{◌≡◌, List, [], ◌++◌, None, option_to_list}
use Rattle.message_events.specs.declared.event.Event.{Event}
use Rattle.message_events.specs.declared.event.Events.TheInside.{Inside}

abbrev pub events_value : Inside → List Event
events_value e = option_to_list e.first ++ e.rest.items

-- without a first event there is no other
abbrev pub HasFirst : Inside → Type 0
HasFirst e = e.first ≡ None → e.rest.items ≡ []
