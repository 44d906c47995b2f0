-- Events that are taken.
use Rattle.std.specs.Prelude.{◌≡◌, ℕ, ◌<◌, List, [], ◌++◌, length, drop, Option, Some, None, slice_get, Result, Ok, Err}
use Rattle.message_events.specs.declared.event.Event.{Event}
use Rattle.message_events.specs.declared.event.Event.TheVariants.{Given, Outcome}
use Rattle.node_parts.specs.declared.told.TakeError.{TakeError}
use Rattle.node_parts.specs.declared.told.TakeError.TheVariants.{Nothing, TooLittleRoom}

-- the bytes of a message; an outcome has none
abbrev pub event_bytes : Event → List ℕ
event_bytes (Given port from to pgn bytes) = bytes
event_bytes (Outcome from to number outcome) = []

-- the bytes are at the front of the room, and the rest of the room is unchanged; or they don't fit, and nothing changed
abbrev pub IsCopied : Event → (room left : List ℕ) → Result ℕ TakeError → Type 0
IsCopied event room left (Ok len) = (len ≡ length (event_bytes event)) × (left ≡ event_bytes event ++ drop len room)
IsCopied event room left (Err (TooLittleRoom len)) = (len ≡ length (event_bytes event)) × ((length room < len) × (left ≡ room))
IsCopied event room left (Err Nothing) = ⊥

-- the first event is taken so, and those behind it wait; or it stays, and all of them wait
abbrev pub IsFirstTaken : Event → (events : List Event) → (room : List ℕ) → (waiting : List Event) → (left : List ℕ) → Result ℕ TakeError → Type 0
IsFirstTaken event events room waiting left (Ok len) = IsCopied event room left (Ok len) × (waiting ≡ drop 1 events)
IsFirstTaken event events room waiting left (Err error) = IsCopied event room left (Err error) × (waiting ≡ events)

-- there is no event
abbrev pub IsNoneTaken : (events : List Event) → (room : List ℕ) → (waiting : List Event) → (left : List ℕ) → Result ℕ TakeError → Type 0
IsNoneTaken events room waiting left (Ok len) = ⊥
IsNoneTaken events room waiting left (Err (TooLittleRoom len)) = ⊥
IsNoneTaken events room waiting left (Err Nothing) = (waiting ≡ events) × (left ≡ room)

abbrev pub IsTakenFrom : Option Event → (events : List Event) → (room : List ℕ) → (waiting : List Event) → (left : List ℕ) → Result ℕ TakeError → Type 0
IsTakenFrom None = IsNoneTaken
IsTakenFrom (Some event) = IsFirstTaken event

abbrev pub IsTaken : (events : List Event) → (room : List ℕ) → (waiting : List Event) → (left : List ℕ) → Result ℕ TakeError → Type 0
IsTaken events = IsTakenFrom (slice_get events 0) events
