-- What one call does to the inner bus and to the events that wait.
use Rattle.std.specs.Prelude.{◌≡◌, Bool, true, false, List, [], ◌∷◌, ◌++◌, Result, Ok, Err, IsOk}
use Rattle.pgn_ids.specs.declared.address.Address.{Address}
use Rattle.message_events.specs.declared.event.Event.{Event}
use Rattle.segment_law.specs.Segment.{Segment}
use Rattle.segment_law.specs.Calls.{called, done, applied, events_of}
use Rattle.segment_law.specs.Record.{Record, StandsAt}
use Rattle.segment_law.specs.declared.call.Call.{Call}
use Rattle.segment_law.specs.declared.call.Call.TheVariants.{Transmit, Take, Inject}
use Rattle.segment_law.specs.declared.refusal.Refusal.{Refusal}
use Rattle.one_station.specs.declared.error.Fed.{Fed}
use Rattle.one_station.specs.declared.error.Fed.TheVariants.{Taken, WithoutRoom, PassedBy}

-- whether a call puts a frame on the bus
abbrev pub comes_on_bus : Call → Bool
comes_on_bus (Transmit a) = true
comes_on_bus (Inject f) = true
comes_on_bus call = false

-- a call is made, and its events wait behind the others
pub record Tells (before : Segment) (waiting : List Event) (call : Call) (after : Segment) (left : List Event) : Type 0 where
  pub made : (applied before call).0 ≡ after
  pub told : left ≡ waiting ++ events_of (applied before call).1
  pub stands : (addresses : List Address) (steps : Record) → StandsAt addresses steps before → StandsAt addresses (steps ++ (call, (applied before call).1) ∷ []) after

-- a call is made, and it has no event
abbrev pub Puts : Segment → Call → Segment → Type 0
Puts before call after = (waiting : List Event) → Tells before waiting call after waiting

-- such a call is made, or is refused and changes nothing
abbrev pub IsPut : (before : Segment) → Call → (after : Segment) → Result (Unit {0}) Refusal → Type 0
IsPut before call after (Ok done) = IsOk (called before call) × Puts before call after
IsPut before call after (Err cause) = (called before call ≡ Err cause) × (after ≡ before)

-- taking the next frame has one result with room and without: it isn't refused, and has no event
abbrev pub PassesBy : Segment → Address → Type 0
PassesBy segment station = (next : Segment) × ((room : Bool) → called segment (Take station room) ≡ done next)

-- the station takes the next frame, with room or without
abbrev pub HasLooked : Segment → List Event → Address → Segment → List Event → Fed → Type 0
HasLooked before waiting station after left Taken = Tells before waiting (Take station true) after left
HasLooked before waiting station after left WithoutRoom = Tells before waiting (Take station false) after left
HasLooked before waiting station after left PassedBy = ⊥
