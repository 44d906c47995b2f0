-- Events and lanes as C reads them.
use Rattle.std.specs.Prelude.{ℕ, Bool, true, false, length}
use Rattle.lane_core.specs.declared.sight.LaneSight.{LaneSight}
use Rattle.message_events.specs.declared.event.Event.{Event}
use Rattle.message_events.specs.declared.event.Event.TheVariants as told
use Rattle.c_parts.specs.Shown.{outcome_number, outcome_reason}
use Rattle.fulwethi_c.specs.declared.shown.CEvent.{CEvent}
use Rattle.fulwethi_c.specs.declared.shown.CLane.{CLane}

abbrev pub shown_event : Event → CEvent
shown_event (told.Given port from to pgn bytes) =
    record { kind = 1; from = from.0; to = to.0; pgn = pgn; number = port.number; len = length bytes; outcome = 0; reason = 0 }
shown_event (told.Outcome from to number outcome) =
    record { kind = 2; from = from.0; to = to.0; pgn = 0; number = number; len = 0; outcome = outcome_number outcome; reason = outcome_reason outcome }

abbrev pub shown_doubt : Bool → ℕ
shown_doubt true = 1
shown_doubt false = 0

abbrev pub shown_lane : LaneSight → CLane
shown_lane lane = record { pending = lane.pending; in_doubt = shown_doubt lane.in_doubt }
