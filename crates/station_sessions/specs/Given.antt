-- How a message is given: at each port of its session's set, by rising number.
use Rattle.std.specs.Prelude.{ℕ, List, map}
use Rattle.pgn_ids.specs.declared.address.Address.{Address}
use Rattle.station_sessions.specs.declared.copies.Message.{Message}
use Rattle.message_events.specs.declared.event.Event.{Event}
use Rattle.message_events.specs.declared.event.Event.TheVariants.{Given}

-- the message is given at one port of a station
abbrev pub given_at : Address → (number : ℕ) → Message → Event
given_at station number m = Given (record { station = station; number = number }) m.from m.to m.pgn m.bytes

-- the message is given at these ports, whole at each
abbrev pub given_to : Address → List ℕ → Message → List Event
given_to station numbers m = map (λ number. given_at station number m) numbers
