-- How messages to all end.
use Rattle.std.specs.Prelude.{◌≡◌, Bool, true, false, not, ◌||◌, ◌==◌, List}
use Rattle.std.specs.List.{list_all}
use Rattle.pgn_ids.specs.Address.{global_address}
use Rattle.pgn_ids.specs.declared.address.Address.{Address}
use Rattle.tp_wire.specs.declared.outcome.Outcome.{Outcome}
use Rattle.tp_wire.specs.declared.outcome.Outcome.TheVariants.{Broadcast}
use Rattle.message_events.specs.declared.event.Event.{Event}
use Rattle.message_events.specs.declared.event.Event.TheVariants as event
use Rattle.segment_law.specs.Segment.{Segment}
use Rattle.segment_law.specs.Calls.{applied, events_of, is_call}
use Rattle.segment_law.specs.Drift.{DriftsTo}
use Rattle.segment_law.specs.Record.{Record}
use Rattle.segment_law.specs.declared.call.Call.{Call}
use Rattle.segment_law.specs.declared.call.Call.TheVariants.{Cancel}

abbrev pub is_broadcast : Outcome → Bool
is_broadcast Broadcast = true
is_broadcast _ = false

-- if it is the outcome of a message to all, that was broadcast
abbrev pub ends_well : Event → Bool
ends_well (event.Given port from to pgn bytes) = true
ends_well (event.Outcome from to number outcome) = not (to.0 == global_address) || is_broadcast outcome

abbrev pub is_cancel : Call → Bool
is_cancel (Cancel from to number) = true
is_cancel _ = false

-- only a Cancel ends a message to all otherwise
abbrev pub BroadcastsEnd : Type 0
BroadcastsEnd = (addresses : List Address) (steps : Record) (seg : Segment) (call : Call) → DriftsTo addresses steps seg → is_call call ≡ true → is_cancel call ≡ false
    → list_all ends_well (events_of (applied seg call).1) ≡ true
