-- What holds of a shared segment at every moment.
use Rattle.std.specs.Prelude.{◌≡◌, ℕ, ◌≤◌, ◌<◌, ◌^◌, Bool, true, false, List, ◌∷◌, length, drop, map, Option, Some, None, slice_get, []}
use mathlib.Core.List.{IsPrefix}
use Rattle.pgn_ids.specs.declared.address.Address.{Address}
use Rattle.message_events.specs.declared.event.Event.{Event}
use Rattle.segment_law.specs.Segment.{Segment}
use Rattle.segment_law.specs.Record.{StandsAt}
use Rattle.segment_law.specs.declared.call.Call.{Call}
use Rattle.segment_law.specs.declared.call.Call.TheVariants.{Send}
use Rattle.live_record.specs.Replies.{IsKnown, EachKnown}
use Rattle.segment_rings.specs.declared.words.Note.{Note}
use Rattle.segment_rings.specs.Views.{SeatView, DoorView}
use Rattle.stored_calls.specs.declared.stored.Stored.{Stored}
use Rattle.live_record.specs.declared.owed.Owed.{Owed}
use Rattle.live_record.specs.Record.{accepted, given, notes_of, trail}
use Rattle.live_record.specs.declared.calls.Piece.{Piece}
use Rattle.live_record.specs.Past.{IsCutImage}
use Rattle.live_ends.specs.Ends.{IdsFrom, HaveRoom, OwedWithin, PortsApart}

-- what was popped from each client's ring are its stored messages
abbrev pub PopsAccepted : List Stored → List SeatView → Type 0
PopsAccepted xs [] = Unit {0}
PopsAccepted xs (s ∷ ss) = (s.popped ≡ accepted s.id xs) × PopsAccepted xs ss

-- what went into a client's ring are all these notes; of a client that is gone, the first of them
abbrev pub HasNotes : (active : Bool) → List Note → List Note → Type 0
HasNotes true noted ns = noted ≡ ns
HasNotes false noted ns = IsPrefix noted ns

-- what is kept of these notes are all but so many of the first
abbrev pub IsEndOf : (gone : ℕ) → (kept all : List Note) → Type 0
IsEndOf gone kept all = (gone ≤ length all) × (kept ≡ drop gone all)

-- the notes of each client but for the first ones are kept, and went into its ring until it was gone
abbrev pub PushesNotes : List (ℕ × Note) → List SeatView → Type 0
PushesNotes ns [] = Unit {0}
PushesNotes ns (s ∷ ss) = IsEndOf s.gone s.kept (notes_of s.id ns) × HasNotes s.active s.noted (notes_of s.id ns) × PushesNotes ns ss

-- what was pushed into each port's ring is what it was given
abbrev pub PushesGiven : List Event → List DoorView → Type 0
PushesGiven es [] = Unit {0}
PushesGiven es (d ∷ ds) = (d.pushed ≡ given d.port es) × PushesGiven es ds

-- the id of a client of this station; `stations` are those of all clients, in the order of their ids
abbrev pub IsClientAt : Option ℕ → Address → (stations : List Address) → Type 0
IsClientAt None from stations = ⊥
IsClientAt (Some c) from stations = slice_get stations c ≡ Some from

-- a Send is by a client of the station that it is from, and any other call is nobody's
abbrev pub IsSender : Call → Option ℕ → (stations : List Address) → Type 0
IsSender (Send from to pgn bytes) by stations = IsClientAt by from stations
IsSender _ by stations = by ≡ None

abbrev pub HaveSenders : (stations : List Address) → List Stored → Type 0
HaveSenders stations [] = Unit {0}
HaveSenders stations (x ∷ xs) = IsSender x.call x.by stations × HaveSenders stations xs

abbrev pub seat_station : SeatView → Address
seat_station s = s.station

-- each note has a client that is there
abbrev pub NotedWithin : ℕ → List (ℕ × Note) → Type 0
NotedWithin n [] = Unit {0}
NotedWithin n (x ∷ xs) = (x.0 < n) × NotedWithin n xs

-- each door has a port that was opened
abbrev pub DoorsKnown : Segment → List DoorView → Type 0
DoorsKnown seg [] = Unit {0}
DoorsKnown seg (d ∷ ds) = IsKnown d.port seg × DoorsKnown seg ds

-- what holds between the segment, the stored calls, what is owed, the seats and the doors
pub record Holds (addresses : List Address) (state : Segment) (xs : List Stored) (ws : List Owed) (ss : List SeatView) (ds : List DoorView) : Type 0 where
  pub stands : StandsAt addresses (trail addresses xs).steps state
  pub at : state ≡ (trail addresses xs).state
  pub few : length xs < 2 ^ 64
  pub owes : ws ≡ (trail addresses xs).owed
  pub ids : IdsFrom 0 ss
  pub room : HaveRoom ws ss
  pub within : OwedWithin (length ss) ws
  pub pops : PopsAccepted xs ss
  pub notes : PushesNotes (trail addresses xs).noted ss
  pub gives : PushesGiven (trail addresses xs).events ds
  pub apart : PortsApart ds
  pub known : DoorsKnown state ds
  pub past : EachKnown state (trail addresses xs).events
  pub senders : HaveSenders (map seat_station ss) xs
  pub noted : NotedWithin (length ss) (trail addresses xs).noted

-- each note of these seats is kept, and each delivery of these doors
abbrev pub KeepNotes : List SeatView → Type 0
KeepNotes [] = Unit {0}
KeepNotes (s ∷ ss) = (s.gone ≡ 0) × KeepNotes ss

abbrev pub KeepGiven : List DoorView → Type 0
KeepGiven [] = Unit {0}
KeepGiven (d ∷ ds) = (d.gone ≡ 0) × KeepGiven ds

-- the pieces with the image of the last cut; before the first cut everything is kept
pub record IsCut (addresses : List Address) (ps : List Piece) (image : Option Segment) (ss : List SeatView) (ds : List DoorView) : Type 0 where
  pub is_of : IsCutImage addresses ps image
  pub keeps : ps ≡ [] → KeepNotes ss × KeepGiven ds
