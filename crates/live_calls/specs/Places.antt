-- What is found before a call is made.
use Rattle.std.specs.Prelude.{ℕ, ◌*◌, ◌≤◌, Bool, true, false, List, length}
use Rattle.segment_rings.specs.Views.{DoorView}
use Rattle.live_calls.specs.declared.wanted.Wanted.{Wanted}
use Rattle.live_ends.specs.Places.{HavePlaces, LacksPlace, AtLeast}

-- what was found before a call: places and buffers, or that a place is missing
abbrev pub IsFound : Wanted → List DoorView → (room : Bool) → (buffers : List ℕ) → Type 0
IsFound w ds true buffers = HavePlaces w.station w.ports ds × ((2 * length w.ports ≤ length buffers) × AtLeast w.len buffers)
IsFound w ds false buffers = LacksPlace w.station w.ports ds
