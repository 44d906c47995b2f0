-- What holds of the seats of all clients and of the doors of all ports, and what changes them.
use Rattle.std.specs.Prelude.{◌≡◌, ℕ, ◌+◌, ◌-◌, ◌≤◌, ◌<◌, false, List, ◌∷◌, ◌++◌, length, slice_index_or, []}
use Rattle.port_table.specs.declared.port.PortId.{PortId}
use Rattle.message_events.specs.declared.event.Event.{Event}
use Rattle.segment_law.specs.Told.{same_port}
use Rattle.segment_rings.specs.declared.words.Note.{Note}
use Rattle.segment_rings.specs.Views.{SeatView, DoorView, SameSeat, SameDoor, CutSeat, CutDoor, noted_after, free_after}
use Rattle.live_record.specs.declared.owed.Owed.{Owed}
use Rattle.live_record.specs.Record.{given, notes_of, owed_by}

-- client c is the c-th seat
abbrev pub IdsFrom : ℕ → List SeatView → Type 0
IdsFrom n [] = Unit {0}
IdsFrom n (s ∷ ss) = (s.id ≡ n) × IdsFrom (n + 1) ss

-- the place of each note that is owed is free and kept
abbrev pub HaveRoom : List Owed → List SeatView → Type 0
HaveRoom ws [] = Unit {0}
HaveRoom ws (s ∷ ss) = (owed_by s.id ws ≤ s.free) × (owed_by s.id ws ≤ s.spare) × HaveRoom ws ss

-- the notes of each client, one after another, are kept, and put into its ring if the client isn't gone
abbrev pub note_seat : List (ℕ × Note) → SeatView → SeatView
note_seat ns s = record s {
  kept = s.kept ++ notes_of s.id ns;
  noted = noted_after s.active s.noted (notes_of s.id ns);
  free = free_after s.active s.free (length (notes_of s.id ns));
  spare = s.spare - length (notes_of s.id ns);
}

abbrev pub note_all : List (ℕ × Note) → List SeatView → List SeatView
note_all ns [] = []
note_all ns (s ∷ ss) = note_seat ns s ∷ note_all ns ss

-- each owed message has a client that is there
abbrev pub OwedWithin : ℕ → List Owed → Type 0
OwedWithin n [] = Unit {0}
OwedWithin n (w ∷ ws) = (w.client < n) × OwedWithin n ws

-- no two doors have one port
abbrev pub NoneAt : PortId → List DoorView → Type 0
NoneAt p [] = Unit {0}
NoneAt p (d ∷ ds) = (same_port p d.port ≡ false) × NoneAt p ds

abbrev pub PortsApart : List DoorView → Type 0
PortsApart [] = Unit {0}
PortsApart (d ∷ ds) = NoneAt d.port ds × PortsApart ds

-- what these events give goes into the rings
abbrev pub give_door : List Event → DoorView → DoorView
give_door es d = record d { pushed = d.pushed ++ given d.port es; free = d.free - length (given d.port es); spare = d.spare - length (given d.port es) }

abbrev pub give_all : List Event → List DoorView → List DoorView
give_all es [] = []
give_all es (d ∷ ds) = give_door es d ∷ give_all es ds

abbrev pub SameDoors : List DoorView → List DoorView → Type 0
SameDoors [] [] = Unit {0}
SameDoors [] (e ∷ es) = ⊥
SameDoors (d ∷ ds) [] = ⊥
SameDoors (d ∷ ds) (e ∷ es) = SameDoor d e × SameDoors ds es

abbrev pub SameSeats : List SeatView → List SeatView → Type 0
SameSeats [] [] = Unit {0}
SameSeats [] (t ∷ ts) = ⊥
SameSeats (s ∷ ss) [] = ⊥
SameSeats (s ∷ ss) (t ∷ ts) = SameSeat s t × SameSeats ss ts

-- each seat was cut, and each door
abbrev pub CutSeats : List SeatView → List SeatView → Type 0
CutSeats ss ts = (length ts ≡ length ss) × ((k : ℕ) (s : SeatView) → k < length ss → CutSeat (slice_index_or ss k s) (slice_index_or ts k s))

abbrev pub CutDoors : List DoorView → List DoorView → Type 0
CutDoors ds es = (length es ≡ length ds) × ((k : ℕ) (d : DoorView) → k < length ds → CutDoor (slice_index_or ds k d) (slice_index_or es k d))
